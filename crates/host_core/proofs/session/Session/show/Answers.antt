use Rattle.std.proofs.Common.{◌≡◌, ◌++◌, ◌∷◌, [], ℕ, List, Vec, ap, refl, arith, subst, drop, inr, ◌∙◌, length, sym, ◌≤◌}
use Rattle.std.specs.declared.alloc.Global.{Global}
use Rattle.host_core.specs.declared.acting.Shown.{Shown}
use Rattle.datastream.specs.Wanted.{WantedScreen}
use Rattle.panels.specs.Panel.{PanelParts, Panels, size_of}
use Rattle.std.specs.Vec.{vec_capacity}
use Rattle.codes3270.specs.Size.{ScreenSize, cells_in, most_cells}
use Rattle.shadow.specs.Paint.{paint_bytes}
use Rattle.telnet_wire.proofs.Lengths.{ok_with_room}
use Rattle.telnet_wire.specs.Items.{Record, sent_bytes}
use Rattle.host_core.proofs.Paintings.{paint_is_kept, paint_record, same_wanted, shows, paint_believes}
use Rattle.host_core.specs.Acts.{done, painted, values_shown, wanted_by, when_shown}
use Rattle.host_core.specs.Choices.{act_of}
use Rattle.host_core.specs.Session.{Session}
use Rattle.host_core.specs.Representation.{BelievesTheSize, IsPlainWrite, IsSentOn}
use Rattle.host_core.specs.Application.{Application, application_of, panel_at}
use Rattle.host_core.specs.declared.turn.Turn.TheVariants as whose
use Rattle.host_core.specs.Representation.{pending_in}
use Rattle.tn3270e_msg.specs.Header.{next_number}
use Rattle.host_core.specs.declared.pending.Pending.TheVariants as unanswered
use Rattle.host_core.proofs.session.Session.show.Goals as goal

pub unwrap-requires : goal.unwrap-requires
unwrap-requires c =
    let wanted = c.put_fitting.new.wanted in
    let size : length wanted.cells ≡ cells_in wanted.size = c.put_fitting.ensures.screen.size in
    let few : cells_in wanted.size ≤ most_cells = c.put_fitting.ensures.screen.few in
    let bounded = c.what_is_wanted_is_painted.ensures.bounded (cells_in wanted.size) c.self.inside.shadow c.put_fitting.new.wanted (omega (arith, size)) in
    let begun = ap (λ (bytes : List ℕ). length bytes) c.begin_record.ensures.begun in
    let made = c.self.invariant.1 in
    let kept = c.begin_record.ensures.capacity in
    let len = c.begin_record.new.bytes.ok.0 in
    ok_with_room c.paint.result (vec_capacity c.begin_record.new.bytes) _ c.paint.ensures.room (omega (arith, bounded, size, few, begun, made, kept, len))

-- the size that the screen has from now on is the wanted one
sized : (wanted : WantedScreen) (panels : Panels) (shown : ℕ) (size : ScreenSize) (panel : PanelParts) → wanted.size ≡ size_of (panel_at panels shown) → size ≡ size_of panel → panel ≡ panel_at panels shown
    → wanted.size ≡ size
sized wanted panels shown size panel is has asked = is ∙ sym (has ∙ ap size_of asked)

pub invariant_of-self : goal.invariant_of-self
invariant_of-self c =
    let laws = c.what_is_wanted_is_painted.ensures in
    let wanted = c.put_fitting.new.wanted in
    let begun = rw c.unwrap.ensures at c.paint.ensures.painted in
    let same : wanted.size ≡ c.size-size.result = sized wanted c.args.panels.now c.for_model-shown.result.panel c.size-size.result c.panel_in.result.now c.put_fitting.ensures.size c.size-size.ensures c.panel_in.ensures.panel in
    let encoded = laws.encoded wanted.size wanted.size c.self.inside.shadow wanted c.put_fitting.ensures.screen (inr refl) (λ writes. refl) in
    let record_is = begun ∙ ap (λ (bytes : List ℕ). bytes ++ paint_bytes (cells_in wanted.size) c.self.inside.shadow wanted) c.begin_record.ensures.begun in (
      subst (λ (shape : ScreenSize). IsPlainWrite shape (drop 5 c.paint.new.out.items)) same
          (paint_is_kept (cells_in wanted.size) c.self.inside.next_seq c.self.inside.shadow wanted c.paint.new.out.items encoded
          (laws.plain (cells_in wanted.size) c.self.inside.shadow wanted) record_is),
      omega arith,
      c.self.invariant.2,
      subst (λ (shape : ScreenSize). BelievesTheSize shape (unanswered.Writing c.self.inside.next_seq) c.paint.new.out.items c.self.inside.shadow) same
          (paint_believes c.self.inside.next_seq c.self.inside.shadow wanted c.paint.new.out.items encoded record_is),
    )

-- what is left of the values once a panel is shown
shown_after : {new : Session} (app : Application) (old dropped : Session) (shown asked : Shown) (made : Session → Shown → Session) → new ≡ made dropped shown
    → dropped ≡ record old { values = values_shown app shown.panel shown.message old.values } → shown ≡ asked
    → new ≡ made (record old { values = values_shown app asked.panel asked.message old.values }) asked
shown_after app old dropped shown asked made is left same =
    is ∙ ap (λ (s : Session). made s shown) left ∙ ap (λ (it : Shown). made (record old { values = values_shown app it.panel it.message old.values }) it) same

-- what was unheard is dropped first
once_heard : (app : Application) (old mid new : Session) (asked : Shown) (before after : Vec ℕ Global) → mid ≡ when_shown old
    → IsSentOn (painted app mid asked.panel asked.message asked.keep mid.values) before after new → IsSentOn (done app old (act_of old.values asked)) before after new
once_heard app old mid new asked before after is on = subst (λ (conn : Session). IsSentOn (painted app conn asked.panel asked.message asked.keep conn.values) before after new) is on

pub returns-clause-sent : goal.returns-clause-sent
returns-clause-sent c =
    let app = application_of c.args.panels.now in
    let mid = c.forget_unheard.new.self in
    let laws = c.what_is_wanted_is_painted.ensures in
    let begun = rw c.unwrap.ensures at c.paint.ensures.painted in
    let wanted = c.put_fitting.new.wanted in
    let same : wanted.size ≡ c.size-size.result = sized wanted c.args.panels.now c.for_model-shown.result.panel c.size-size.result c.panel_in.result.now c.put_fitting.ensures.size c.size-size.ensures c.panel_in.ensures.panel in
    let left = values_shown app c.for_model-shown.result.panel c.for_model-shown.result.message mid.values in
    let record_is : c.paint.new.out.items ≡ paint_record (cells_in wanted.size) c.drop_values.new.self.next_seq c.drop_values.new.self.shadow wanted =
    rw (← c.self.view_is) (begun ∙ ap (λ (bytes : List ℕ). bytes ++ paint_bytes (cells_in wanted.size) c.self.inside.shadow wanted) c.begin_record.ensures.begun) in
    once_heard app c.args.self.now mid _ c.args.asked c.args.out.now c.send_record.new.out c.forget_unheard.ensures
    (shows app mid _ c.args.asked.panel c.args.asked.message c.args.asked.keep mid.values c.put_fitting.new.wanted c.paint.new.out.items c.args.out.now c.send_record.new.out
    (c.put_fitting.ensures.wanted
    ∙ ap (wanted_by app c.drop_values.new.self c.for_model-shown.result.panel c.for_model-shown.result.message c.for_model-shown.result.keep) (ap (λ (s : Session). s.values) c.self.view_is)
    ∙ ap (λ (s : Session). wanted_by app s c.for_model-shown.result.panel c.for_model-shown.result.message c.for_model-shown.result.keep s.values) c.drop_values.ensures
    ∙ same_wanted app mid left c.for_model-shown.result.panel c.for_model-shown.result.message c.for_model-shown.result.keep left
    ∙ ap (λ (s : Shown). wanted_by app mid s.panel s.message s.keep (values_shown app s.panel s.message mid.values)) c.for_model-shown.ensures.shown)
    (laws.encoded wanted.size wanted.size mid.shadow wanted c.put_fitting.ensures.screen (inr refl) (λ writes. refl))
    (record_is ∙ ap (λ (s : Session). paint_record (cells_in wanted.size) s.next_seq s.shadow wanted) c.drop_values.ensures)
    (shown_after app mid c.drop_values.new.self c.for_model-shown.result _ (λ s shown. record s {
      size = wanted.size;
      turn = whose.Terminal;
      pending = pending_in wanted.size (unanswered.Writing s.next_seq) c.paint.new.out.items;
      next_seq = next_number s.next_seq;
      panel = shown.panel;
      message = shown.message;
    }) (rw (same, ← c.self.view_is, c.next_seq-self-inside.ensures) refl) c.drop_values.ensures c.for_model-shown.ensures.shown)
    (c.send_record.ensures.sent ∙ ap (λ (bytes : List ℕ). c.args.out.now.items ++ sent_bytes (Record bytes ∷ [])) c.as_slice.ensures.value))
