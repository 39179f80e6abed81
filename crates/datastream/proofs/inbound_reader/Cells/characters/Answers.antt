use Rattle.std.proofs.Common.{◌≡◌, ℕ, ◌∙◌, ap, sym, drop, take, length}
use Rattle.std.specs.List.{prefix_len}
use Rattle.codes3270.specs.Size.{cells_in}
use Rattle.codes3270.specs.Storable.{is_storable}
use Rattle.datastream.specs.Screen.{text_before_attribute}
use Rattle.datastream.proofs.CharacterRuns.{behind}
use Rattle.datastream.proofs.InboundRuns.{cells_of, cells_ahead, cells_behind}
use Rattle.datastream.proofs.inbound_reader.Cells.characters.Goals as goal

pub returns-clause-characters : goal.returns-clause-characters
returns-clause-characters c =
    let text = c.self.inside.text.now in
    c.split_at.ensures.front
    ∙ ap (λ (k : ℕ). take k text) c.count_characters.ensures.value
    ∙ sym (cells_ahead (cells_in c.self.inside.size) text)
    ∙ ap text_before_attribute c.self.view_is

pub returns-clause-left : goal.returns-clause-left
returns-clause-left c =
    let text = c.self.inside.text.now in
    let size = cells_in c.self.inside.size in
    let left : c.split_at.result.1.now ≡ behind text = c.split_at.ensures.back ∙ ap (λ (k : ℕ). drop k text) c.count_characters.ensures.value in
    let count : prefix_len is_storable text ≡ length c.split_at.result.0.now = sym c.count_characters.ensures.value ∙ sym c.split_at.ensures.front_len in
    ap (cells_of size) left
    ∙ cells_behind size text
    ∙ ap (λ (k : ℕ). drop k (cells_of size text)) count
    ∙ ap (drop (length c.split_at.result.0.now)) c.self.view_is
