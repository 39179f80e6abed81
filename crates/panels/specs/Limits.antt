-- How many panels, texts, fields, values and copies a panel text may have (our profile).
use Rattle.std.specs.Prelude.{ℕ}

-- the most copies of an item: the rows of the largest screen without the one for messages
abbrev pub most_copies : ℕ
most_copies = 42

-- the most panels of a text
abbrev pub most_panels : ℕ
most_panels = 64

-- the most texts of a panel
abbrev pub most_texts : ℕ
most_texts = 256

-- the most fields and values of a panel
abbrev pub most_fields : ℕ
most_fields = 128
