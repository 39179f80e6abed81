-- The laws of this crate and of those below that the world over bytes rests on, as one record for proofs.
use Rattle.datastream.specs.Laws.{OneInbound}
use Rattle.host_core.specs.Laws.{PanelsAreShown, PanelsAskForScreens}
use Rattle.shadow.specs.Laws.{PaintIsBounded}
use Rattle.telnet_wire.specs.Laws.{DeliveriesCompose, DeliveryGoesOn, NothingIsRest, OneDelivery, ReadingNothing, WrongIsFinal}
use Rattle.tn3270e_msg.specs.Laws.{OneHeader, FaultIsNoHeader}
use Rattle.world3270.specs.statement.Always.{Always, HeadlineHolds, NoCommandIsRejected, AlwaysOf}
use Rattle.world3270.specs.statement.Forms.{FormsAreAwaited}
use Rattle.world3270.specs.refinement.LowerLaws.{LowerLaws}
use Rattle.world3270.specs.statement.Numbers.{NumbersFit}
use Rattle.world3270.specs.model.Places.{EndsAgree, UpIsHeld}
use Rattle.world3270.specs.refinement.Sendable.{AlwaysTyped, ScreensAreSendable, PaintsAreScreens, PaintsAreSpelt}
use Rattle.world3270.specs.refinement.RepresentsEnds.{PaintRepresents}
use Rattle.world3270.specs.refinement.RepresentsLinks.{BeginRepresents, PressRepresents, WhatComesMayCome, DownIsNotRefused, DownRepresents, HostSends, NopRepresents, UpRepresents, LossRepresents, HostLeaves, TermLeaves}

-- the laws of worlds over messages
pub record WorldLaws : Type 0 where
  pub given : LowerLaws
  pub application : PanelsAreShown
  pub screens : PanelsAskForScreens
  pub headline : Always HeadlineHolds
  pub nobody_refuses : Always NoCommandIsRejected
  pub agree : Always EndsAgree
  pub up_held : Always UpIsHeld
  pub forms : Always FormsAreAwaited
  pub numbers : Always NumbersFit
  pub may : AlwaysOf WhatComesMayCome
  pub sendable : AlwaysTyped ScreensAreSendable
  pub paints : AlwaysTyped PaintsAreScreens
  pub encoded : AlwaysTyped PaintsAreSpelt

-- the laws of connections over bytes, and of how bytes are read
pub record LinkLaws : Type 0 where
  pub begin : BeginRepresents
  pub press : PressRepresents
  pub down : DownRepresents
  pub not_refused : DownIsNotRefused
  pub sends : HostSends
  pub nop : NopRepresents
  pub up : UpRepresents
  pub loss : LossRepresents
  pub host_leaves : HostLeaves
  pub term_leaves : TermLeaves
  pub paint : PaintRepresents
  pub bounded : PaintIsBounded
  pub wrong_is_final : WrongIsFinal
  pub one_delivery : OneDelivery
  pub no_bytes : ReadingNothing
  pub start : NothingIsRest
  pub deliveries : DeliveriesCompose
  pub delivery_goes_on : DeliveryGoesOn
  pub one_header : OneHeader
  pub fault_or_header : FaultIsNoHeader
  pub one_inbound : OneInbound

pub record MessageLaws : Type 0 where
  pub worlds : WorldLaws
  pub links : LinkLaws
