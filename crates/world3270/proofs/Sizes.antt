-- The ends agree on the size of the screen.
use Rattle.std.proofs.Common.{◌≡◌, false, refl, ap, ◌∙◌, sym}
use Rattle.host_core.specs.Application.{Application}
use Rattle.world3270.specs.statement.Always.{AlwaysOf}
use Rattle.world3270.specs.refinement.LowerLaws.{LowerLaws}
use Rattle.world3270.specs.model.Steps.{run}
use Rattle.world3270.specs.model.Link.{Link}
use Rattle.world3270.specs.refinement.Phases.{LinkPhase, SessionPhase, pending_at}
use Rattle.world3270.specs.refinement.Sizes.{AllSizesAgree, SizesAgree, is_painting}
use Rattle.world3270.specs.refinement.Invariant.{ConnectionInvariant, may_differ_at}
use Rattle.world3270.specs.refinement.View.{view_of}
use Rattle.world3270.specs.model.World.{World, new_world}
use Rattle.world3270.proofs.Worlds.{run_good, new_good}

-- where no paint waits for its answer none is under way
steady : (moment : LinkPhase) → is_painting (pending_at moment) ≡ false → may_differ_at moment ≡ false
steady (LinkPhase.Negotiating talking) none = refl
steady (LinkPhase.FirstPaint lu number command wanted over) none = absurd (cc)
steady (LinkPhase.InSession lu SessionPhase.Deciding) none = refl
steady (LinkPhase.InSession lu (SessionPhase.Reading number)) none = refl
steady (LinkPhase.InSession lu (SessionPhase.BufferReturning number parts)) none = refl
steady (LinkPhase.InSession lu (SessionPhase.DecidingNoteSent number command)) none = refl
steady (LinkPhase.InSession lu (SessionPhase.DecidingNoteAnswered number command)) none = refl
steady (LinkPhase.InSession lu (SessionPhase.Painting number command wanted over)) none = absurd (cc)
steady (LinkPhase.InSession lu (SessionPhase.AwaitingWriteResponse kind number command)) none = refl
steady (LinkPhase.InSession lu SessionPhase.OperatorTyping) none = refl
steady (LinkPhase.InSession lu (SessionPhase.Noting number command)) none = refl
steady (LinkPhase.InSession lu (SessionPhase.KeySent parts)) none = refl
steady (LinkPhase.InSession lu (SessionPhase.KeySentAfterResponse kind number command parts)) none = refl
steady (LinkPhase.InSession lu (SessionPhase.KeyCrossingNote number command parts)) none = refl
steady (LinkPhase.InSession lu (SessionPhase.KeyBeforeNoteResponse number command parts)) none = refl

agree : (app : Application) (link : Link) → ConnectionInvariant app (view_of link) → SizesAgree app link
agree app link k = record {
  host = k.sizes.host;
  screen = k.sizes.screen;
  same = λ none. k.sizes.same (steady k.moment (ap is_painting (sym k.at.pending) ∙ none));
}

pub all_sizes_agree : LowerLaws → AlwaysOf AllSizesAgree
all_sizes_agree given app serves pool models events is lists few are number =
    let world : World = run app events (new_world app serves pool models) in
    let g = run_good given app is events (new_world app serves pool models) are (new_good given app is serves pool models lists) in
    agree app (world.link number) (g.links number)
