-- What keys keep one after another.
use Rattle.std.proofs.Common.{◌≡◌, ℕ, ◌<◌, Bool, true, List, length, replicate, ap, sym, ◌∙◌, subst}
use Rattle.codes3270.specs.declared.attention.Aid.{Aid}
use Rattle.codes3270.specs.declared.attention.Aid.TheVariants.{NoAid, Enter as EnterAid, Pf as PfAid, Pa as PaAid, Clear as ClearAid}
use Rattle.codes3270.specs.declared.attribute.Cell.{Cell}
use Rattle.codes3270.specs.declared.attribute.Cell.TheVariants.{Char}
use Rattle.datastream.specs.Screen.{Screen}
use Rattle.datastream.specs.KeptByKeys.{KeptByKeys}
use Rattle.datastream.specs.HeldLaws.{HeldComposes, EraseInputHolds}
use Rattle.keyboard.specs.declared.key.Key.{Key}
use Rattle.keyboard.specs.declared.key.Key.TheVariants.{Char as CharKey, Tab as TabKey, BackTab as BackTabKey, NewLine as NewLineKey, Home as HomeKey, CursorUp as CursorUpKey, CursorDown as CursorDownKey, CursorLeft as CursorLeftKey, CursorRight as CursorRightKey, Backspace as BackspaceKey, Insert as InsertKey, Delete as DeleteKey, EraseEof as EraseEofKey, EraseInput as EraseInputKey, Reset as ResetKey, Enter as EnterKey, Pf as PfKey, Pa as PaKey, Clear as ClearKey}
use Rattle.keyboard.specs.declared.key.Pressed.{Pressed}
use Rattle.keyboard.specs.declared.key.Pressed.TheVariants.{Done, Refused, Send}
use Rattle.keyboard.specs.State.{Keyboard}
use Rattle.keyboard.specs.Keys.{pressed}
use Rattle.keyboard.specs.Leaves.{Leaves, LeavesDone, LeavesSent, Keeps, KeepsSent, erases}
use Rattle.keyboard.proofs.Leaving.{keys_leave}

-- what a key that sends nothing leaves is held
done_held : EraseInputHolds → (key : Key) (mid now : List Cell) → LeavesDone key mid now → KeptByKeys (erases key) mid now
done_held erase (CharKey letter) mid now left = left
done_held erase TabKey mid now left = left
done_held erase BackTabKey mid now left = left
done_held erase NewLineKey mid now left = left
done_held erase HomeKey mid now left = left
done_held erase CursorUpKey mid now left = left
done_held erase CursorDownKey mid now left = left
done_held erase CursorLeftKey mid now left = left
done_held erase CursorRightKey mid now left = left
done_held erase BackspaceKey mid now left = left
done_held erase InsertKey mid now left = left
done_held erase DeleteKey mid now left = left
done_held erase EraseEofKey mid now left = left
done_held erase EraseInputKey mid now left = subst (λ (cells : List Cell). KeptByKeys true mid cells) (sym left) (erase mid)
done_held erase ResetKey mid now left = left
done_held erase EnterKey mid now left = left
done_held erase (PfKey number) mid now left = left
done_held erase (PaKey number) mid now left = left
done_held erase ClearKey mid now left = left

-- cells that stayed keep what was kept
same_held : (erased : Bool) (left mid now : List Cell) → KeptByKeys erased left mid → now ≡ mid → KeptByKeys erased left now
same_held erased left mid now held same = subst (λ (cells : List Cell). KeptByKeys erased left cells) (sym same) held

sent_keeps : (erased : Bool) (aid : Aid) (left mid now : List Cell) → KeptByKeys erased left mid → LeavesSent aid mid now → KeepsSent erased aid left now
sent_keeps erased NoAid left mid now held leaves = leaves
sent_keeps erased EnterAid left mid now held leaves = same_held erased left mid now held leaves
sent_keeps erased (PfAid key) left mid now held leaves = same_held erased left mid now held leaves
sent_keeps erased (PaAid key) left mid now held leaves = same_held erased left mid now held leaves
sent_keeps erased ClearAid left mid now held leaves = leaves ∙ ap (λ (n : ℕ). replicate n (Char 0)) held.same_length

answer_keeps : HeldComposes → EraseInputHolds → (erased : Bool) (key : Key) (answer : Pressed) (left mid now : List Cell) → KeptByKeys erased left mid → Leaves key answer mid now → Keeps erased key answer left now
answer_keeps composes erase erased key Done left mid now held leaves =
    composes erased (erases key) left mid now held (done_held erase key mid now leaves)
answer_keeps composes erase erased key (Refused why) left mid now held leaves = same_held erased left mid now held leaves
answer_keeps composes erase erased key (Send aid) left mid now held leaves = sent_keeps erased aid left mid now held leaves

pub keys_keep : HeldComposes → EraseInputHolds → (erased : Bool) (left : List Cell) (columns : ℕ) (key : Key) (keyboard : Keyboard) (screen : Screen) → screen.cursor < length screen.cells → KeptByKeys erased left screen.cells → Keeps erased key (pressed columns key keyboard screen).answer left (pressed columns key keyboard screen).screen.cells
keys_keep composes erase erased left columns key keyboard screen inside held =
    answer_keeps composes erase erased key (pressed columns key keyboard screen).answer left screen.cells (pressed columns key keyboard screen).screen.cells held
    (keys_leave columns key keyboard screen inside)
