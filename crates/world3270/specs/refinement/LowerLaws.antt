-- The laws of the crates below, as one record for proofs.

use Rattle.datastream.specs.HeldLaws.{HeldAtFirst, HeldComposes, HeldIsRound}
use Rattle.datastream.specs.NoteLaws.{NoteKeepsBounds, NoteKeepsForm, NoteKeepsHeld, HeldStaysProtected, NoteKeepsSendable, NotesCompose}
use Rattle.keyboard.specs.Laws.{KeysKeep, KeysStayOnTheScreen}
use Rattle.keyboard.specs.Sendable.{KeysKeepSendable}
use Rattle.shadow.specs.Doubt.{DoubtAllowsInput, DoubtAllowsTheScreen, DoubtStaysExact, DoubtStaysProtected}
use Rattle.shadow.specs.Exactness.{NothingIsExact, HeardStaysExact, HeardStaysProtected, TakenStaysExact, PaintedIsExact, ProtectedIsSeen, ReturnedIsTold}
use Rattle.shadow.specs.Laws.{HearsModified, HearsBuffer, PaintIsEncoded, PaintIsTaken, PaintedIsKnown, WantedIsPainted, WrittenIsTaken}
use Rattle.shadow.specs.Notes.{PlacedStaysKnown, NoteStaysListed, NoteStaysTold, NoteStaysExact, NoteOpensNothing}
use Rattle.shadow.specs.RuleBreaks.{RulesAreNotBroken}
use Rattle.shadow.specs.Settled.{NoteReturnsInput, NoteStaysSettled, PaintReturnsInput, ReadIsSettled, ReturnedIsSettled, SettledIsDecided}
use Rattle.shadow.specs.TextUnknown.{ClearIsHeard, LongOpensNothing, ReadLeavesNothingOpen, PaintOpensNothing}
use Rattle.tn3270e_msg.specs.Laws.{NameIsReadAsItself}
use Rattle.lu_pool.specs.HolderLaws.{PoolsAreSound, StaysSoundFree, StaysSoundGranted, StaysSoundBack, NobodyHolds, AnswersWhatIsFree, AnswersNames, AnswersTheName, GrantIsHeld, OthersStay, OthersKeep, BackIsFree}
use Rattle.host_core.specs.Laws.{ActsFit, SizesAreTheModels}
use Rattle.host_core.specs.NoteLaws.{NotesAreNotes, NotesOverwrite, NotesAreOverCharacters, NotesWriteProtected, PaintsTakeNotes, HeldTakesNotes, SameAttributesTakeNotes}

-- what the host believes of what it writes and hears
pub record BeliefLaws : Type 0 where
  pub hears : HearsModified
  pub reads : HearsBuffer
  pub unbroken : RulesAreNotBroken
  pub encoded : PaintIsEncoded
  pub painted : WantedIsPainted
  pub taken : PaintIsTaken
  pub known : PaintedIsKnown
  pub written : WrittenIsTaken
  pub nothing_exact : NothingIsExact
  pub heard_exact : HeardStaysExact
  pub heard_protected : HeardStaysProtected
  pub taken_exact : TakenStaysExact
  pub painted_exact : PaintedIsExact
  pub seen : ProtectedIsSeen
  pub told : ReturnedIsTold
  pub cleared : ClearIsHeard
  pub long_opens : LongOpensNothing
  pub read_leaves : ReadLeavesNothingOpen
  pub paint_opens : PaintOpensNothing
  pub settled : SettledIsDecided
  pub returned_settles : ReturnedIsSettled
  pub read_settles : ReadIsSettled
  pub paint_returns : PaintReturnsInput
  pub doubt_allows : DoubtAllowsTheScreen
  pub doubt_input : DoubtAllowsInput
  pub doubt_exact : DoubtStaysExact
  pub doubt_protected : DoubtStaysProtected
  pub fit : ActsFit
  pub sizes : SizesAreTheModels
  pub names : NameIsReadAsItself

-- keys
pub record KeyLaws : Type 0 where
  pub keep : KeysKeep
  pub on_screen : KeysStayOnTheScreen
  pub sendable : KeysKeepSendable
  pub at_first : HeldAtFirst
  pub round : HeldIsRound
  pub composes : HeldComposes

-- notes
pub record NoteLaws : Type 0 where
  pub bounds : NoteKeepsBounds
  pub form : NoteKeepsForm
  pub held : NoteKeepsHeld
  pub still_protected : HeldStaysProtected
  pub note_sendable : NoteKeepsSendable
  pub composes : NotesCompose
  pub placed : PlacedStaysKnown
  pub listed : NoteStaysListed
  pub stays_told : NoteStaysTold
  pub exact : NoteStaysExact
  pub opens : NoteOpensNothing
  pub returns : NoteReturnsInput
  pub stays_settled : NoteStaysSettled
  pub are_notes : NotesAreNotes
  pub overwrites : NotesOverwrite
  pub over_characters : NotesAreOverCharacters
  pub writes_protected : NotesWriteProtected
  pub painted_takes : PaintsTakeNotes
  pub held_takes : HeldTakesNotes
  pub same_takes : SameAttributesTakeNotes

-- the pool of LUs
pub record PoolLaws : Type 0 where
  pub sound : PoolsAreSound
  pub sound_free : StaysSoundFree
  pub sound_granted : StaysSoundGranted
  pub sound_back : StaysSoundBack
  pub nobody : NobodyHolds
  pub free : AnswersWhatIsFree
  pub lus : AnswersNames
  pub asked : AnswersTheName
  pub held : GrantIsHeld
  pub others_stay : OthersStay
  pub others_keep : OthersKeep
  pub back : BackIsFree

pub record LowerLaws : Type 0 where
  pub belief : BeliefLaws
  pub keys : KeyLaws
  pub notes : NoteLaws
  pub pool : PoolLaws
