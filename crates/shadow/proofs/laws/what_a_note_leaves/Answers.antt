use Rattle.shadow.proofs.Noted.{note_overwrites, note_overwrites_bare}
use Rattle.shadow.proofs.NotesTaken.{stays_known, stays_listed, stays_told, stays_exact, opens_nothing, stays_whole}
use Rattle.shadow.proofs.laws.what_a_note_leaves.Goals as goal

pub returns : goal.returns
returns c = record { noted = note_overwrites; bare = note_overwrites_bare; known = stays_known; listed = stays_listed; told = stays_told; exact = stays_exact; unopened = opens_nothing; whole = stays_whole }
