-- Whatever an operator does by the rules, in his turn, leaves a connection that is kept.
use Rattle.std.proofs.Common.{◌≡◌, ◌<◌, ◌||◌, ℕ, Bool, true, List, [], length, replicate, arith, refl, ap, sym, subst, ◌∙◌}
use Rattle.std.specs.Prelude.{is_some}
use Rattle.std.proofs.lemmas.List.{length-replicate}
use Rattle.codes3270.specs.Size.{cells_in}
use Rattle.codes3270.specs.declared.attention.Aid.{Aid}
use Rattle.codes3270.specs.declared.attention.Aid.TheVariants.{NoAid, Enter as EnterAid, Clear as ClearAid, Pf as PfAid, Pa as PaAid}
use Rattle.codes3270.specs.declared.attribute.Cell.{Cell}
use Rattle.codes3270.specs.declared.attribute.Cell.TheVariants.{Char as CharCell}
use Rattle.datastream.specs.KeptByKeys.{KeptByKeys}
use Rattle.datastream.specs.Screen.{Screen}
use Rattle.keyboard.specs.Leaves.{erases, KeepsSent}
use Rattle.keyboard.specs.State.{freed}
use Rattle.keyboard.specs.declared.key.Key.TheVariants.{Reset}
use Rattle.keyboard.specs.declared.key.Lock.TheVariants.{Free, Wait}
use Rattle.keyboard.specs.declared.key.Pressed.TheVariants.{Send}
use Rattle.host_core.specs.Application.{Application}
use Rattle.world3270.specs.refinement.LowerLaws.{LowerLaws}
use Rattle.world3270.specs.model.Link.{Link, sent, term_stepped}
use Rattle.world3270.specs.statement.Rules.{after_sending, data_by, edited, shows, with_aid}
use Rattle.world3270.specs.statement.TurnReasons.{IsHome}
use Rattle.world3270.specs.refinement.Invariant.{ConnectionInvariant}
use Rattle.world3270.specs.model.Terminal.{is_bound, bound_to, data_of}
use Rattle.world3270.specs.refinement.View.{View, view_of}
use Rattle.world3270.proofs.Keys.{TypingNow, seen_as, sends, stay, types_now}

-- the connection once input was edited, at a terminal that takes keys
abbrev pub edited_link : List Cell → ℕ → Bool → Link → Link
edited_link cells cursor erases link = term_stepped (shows (freed link.term.display.keyboard) (edited cells cursor erases link.term.display) [] link.term) link.down link

-- and once a key was pressed that sends; the terminal waits then
abbrev pub sent_link : Aid → Link → Link
sent_link aid link = term_stepped (shows (record link.term.display.keyboard { lock = Wait }) (after_sending aid link.term.display) (data_by aid link.term) link.term) link.down link

pub edits_kept : LowerLaws → (app : Application) (link : Link) (cells : List Cell) (cursor : ℕ) (erases : Bool) → ConnectionInvariant app (view_of link) → (link.term.display.keyboard.lock ≡ Wait → ⊥)
    → KeptByKeys erases link.term.display.screen.cells cells → cursor < length cells → ConnectionInvariant app (view_of (edited_link cells cursor erases link))
edits_kept given app link cells cursor erases k free held on =
    let now : TypingNow given app link k = types_now given app link k free in
    let whole : length cells ≡ cells_in link.term.display.size = held.same_length ∙ k.whole in
    stay given app link Reset k now (record link.term.display.screen { cells = cells; cursor = cursor }) Free (link.term.display.erased || erases) whole (subst (λ n. cursor < n) whole on) (λ waits. absurd (cc))
    (given.keys.composes link.term.display.erased erases now.operates.shown.cells link.term.display.screen.cells cells now.operates.held held)

-- what a key that sends leaves of the screen
pub with_aid-whole : (aid : Aid) (screen : Screen) → length (with_aid aid screen).cells ≡ length screen.cells
with_aid-whole NoAid screen = refl
with_aid-whole EnterAid screen = refl
with_aid-whole (PfAid key) screen = refl
with_aid-whole (PaAid key) screen = refl
with_aid-whole ClearAid screen = length-replicate (length screen.cells) (CharCell 0)

pub with_aid-aid : (aid : Aid) (screen : Screen) → (with_aid aid screen).aid ≡ aid
with_aid-aid NoAid screen = refl
with_aid-aid EnterAid screen = refl
with_aid-aid (PfAid key) screen = refl
with_aid-aid (PaAid key) screen = refl
with_aid-aid ClearAid screen = refl

pub with_aid-cursor : (aid : Aid) (screen : Screen) (size : ℕ) → screen.cursor < size → (with_aid aid screen).cursor < size
with_aid-cursor NoAid screen size on = on
with_aid-cursor EnterAid screen size on = on
with_aid-cursor (PfAid key) screen size on = on
with_aid-cursor (PaAid key) screen size on = on
with_aid-cursor ClearAid screen size on = omega (arith, on)

with_aid-home : (aid : Aid) (screen : Screen) → IsHome aid (with_aid aid screen).cursor
with_aid-home NoAid screen clear = absurd (cc)
with_aid-home EnterAid screen clear = absurd (cc)
with_aid-home (PfAid key) screen clear = absurd (cc)
with_aid-home (PaAid key) screen clear = absurd (cc)
with_aid-home ClearAid screen clear = refl

with_aid-keeps : (erased : Bool) (was : List Cell) (aid : Aid) (screen : Screen) → (aid ≡ NoAid → ⊥) → KeptByKeys erased was screen.cells → KeepsSent erased aid was (with_aid aid screen).cells
with_aid-keeps erased was NoAid screen some held = absurd (some refl)
with_aid-keeps erased was EnterAid screen some held = held
with_aid-keeps erased was (PfAid key) screen some held = held
with_aid-keeps erased was (PaAid key) screen some held = held
with_aid-keeps erased was ClearAid screen some held = ap (λ (n : ℕ). replicate n (CharCell 0)) held.same_length

pub sends_kept : LowerLaws → (app : Application) (link : Link) (aid : Aid) → ConnectionInvariant app (view_of link) → (link.term.display.keyboard.lock ≡ Wait → ⊥) → (aid ≡ NoAid → ⊥) → ConnectionInvariant app (view_of (sent_link aid link))
sends_kept given app link aid k free some =
    let now : TypingNow given app link k = types_now given app link k free in
    let here : View = view_of link in
    let screen : Screen = with_aid aid link.term.display.screen in
    let bound : is_bound link.term ≡ true = ap (λ state. is_some (bound_to state)) now.at.term_talk in
    subst (λ b. ConnectionInvariant app (seen_as here (sent here.lost here.up (data_of b (Send aid) here.size screen)) screen Wait here.erased)) (sym bound)
    (sends given app link k now.lu now.from now.shadow now.at now.same now.operates now.typing screen Wait here.erased aid (with_aid-whole aid link.term.display.screen ∙ k.whole)
    (with_aid-cursor aid link.term.display.screen (cells_in here.size) k.cursor) refl (with_aid-aid aid link.term.display.screen) some (with_aid-home aid link.term.display.screen)
    (with_aid-keeps here.erased now.operates.shown.cells aid link.term.display.screen some now.operates.held))
