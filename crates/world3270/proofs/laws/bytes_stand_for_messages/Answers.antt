use Rattle.std.proofs.Common.{refl}
use Rattle.world3270.specs.refinement.Represents.{RepresentsDown, RepresentsUp, all_items, without_nops}
use Rattle.world3270.proofs.Represents.{paint_stands, all_piecewise, nop_has_no_effect, nops_piecewise, term_takes, writes_are_marked, term_presses, nothing_stands, stands_compose, stands_go_on, begin_stands}
use Rattle.world3270.proofs.RepresentsComing.{what_comes_may_come}
use Rattle.world3270.proofs.RepresentsScreens.{takes_keep_sendable}
use Rattle.world3270.proofs.RepresentsLinks.{history_follows, press_stands, down_stands, down_is_not_refused, bytes_are_marked, host_sends, nop_stands, up_stands, loss_stands, host_leaves, term_leaves}
use Rattle.world3270.proofs.laws.bytes_stand_for_messages.Goals as goal

pub returns-clause-paint : goal.returns-clause-paint
returns-clause-paint c = paint_stands c.what_is_wanted_is_painted.ensures.painted

pub returns-clause-takes : goal.returns-clause-takes
returns-clause-takes c =
    let messages = c.one_reading.ensures in
    term_takes c.what_is_believed_has_a_size.ensures.meets messages.header messages.header_or_fault c.sent_is_read.ensures

pub returns-clause-marks : goal.returns-clause-marks
returns-clause-marks c =
    let messages = c.one_reading.ensures in
    writes_are_marked c.what_is_believed_has_a_size.ensures.meets messages.header messages.header_or_fault c.sent_is_read.ensures

pub returns-clause-nop : goal.returns-clause-nop
returns-clause-nop c = nop_has_no_effect

pub returns-clause-history : goal.returns-clause-history
returns-clause-history c = history_follows

pub returns-clause-sendable : goal.returns-clause-sendable
returns-clause-sendable c = takes_keep_sendable c.what_is_believed_has_a_size.ensures.meets

pub returns-clause-presses : goal.returns-clause-presses
returns-clause-presses c =
    let fields = c.fields_both_ways.ensures in
    term_presses fields.ascend fields.listed fields.all_cells c.sent_is_read.ensures

pub returns-clause-down_empty : goal.returns-clause-down_empty
returns-clause-down_empty c =
    let wire = c.one_reading-2.ensures in
    nothing_stands without_nops RepresentsDown refl wire.no_bytes wire.start

pub returns-clause-up_empty : goal.returns-clause-up_empty
returns-clause-up_empty c =
    let wire = c.one_reading-2.ensures in
    nothing_stands all_items RepresentsUp refl wire.no_bytes wire.start

pub returns-clause-down_more : goal.returns-clause-down_more
returns-clause-down_more c =
    let wire = c.one_reading-2.ensures in
    stands_compose without_nops RepresentsDown nops_piecewise wire.deliveries wire.written

pub returns-clause-up_more : goal.returns-clause-up_more
returns-clause-up_more c =
    let wire = c.one_reading-2.ensures in
    stands_compose all_items RepresentsUp all_piecewise wire.deliveries wire.written

pub returns-clause-down_taken : goal.returns-clause-down_taken
returns-clause-down_taken c = stands_go_on without_nops RepresentsDown nops_piecewise c.one_reading-2.ensures.delivery_goes_on

pub returns-clause-up_taken : goal.returns-clause-up_taken
returns-clause-up_taken c = stands_go_on all_items RepresentsUp all_piecewise c.one_reading-2.ensures.delivery_goes_on

pub returns-clause-begin : goal.returns-clause-begin
returns-clause-begin c =
    let wire = c.one_reading-2.ensures in
    begin_stands wire.item wire.start (nothing_stands all_items RepresentsUp refl wire.no_bytes wire.start)

pub returns-clause-press : goal.returns-clause-press
returns-clause-press c =
    let wire = c.one_reading-2.ensures in
    let fields = c.fields_both_ways.ensures in
    press_stands (term_presses fields.ascend fields.listed fields.all_cells c.sent_is_read.ensures) (stands_compose all_items RepresentsUp all_piecewise wire.deliveries wire.written)

pub returns-clause-down : goal.returns-clause-down
returns-clause-down c =
    let messages = c.one_reading.ensures in
    let wire = c.one_reading-2.ensures in
    down_stands (term_takes c.what_is_believed_has_a_size.ensures.meets messages.header messages.header_or_fault c.sent_is_read.ensures) (takes_keep_sendable c.what_is_believed_has_a_size.ensures.meets) nop_has_no_effect (stands_compose all_items RepresentsUp all_piecewise wire.deliveries wire.written)
    (stands_go_on without_nops RepresentsDown nops_piecewise wire.delivery_goes_on) wire.wrong_is_final

pub returns-clause-down_marked : goal.returns-clause-down_marked
returns-clause-down_marked c =
    let messages = c.one_reading.ensures in
    let wire = c.one_reading-2.ensures in
    bytes_are_marked (term_takes c.what_is_believed_has_a_size.ensures.meets messages.header messages.header_or_fault c.sent_is_read.ensures) (takes_keep_sendable c.what_is_believed_has_a_size.ensures.meets) nop_has_no_effect (stands_compose all_items RepresentsUp all_piecewise wire.deliveries wire.written)
    (stands_go_on without_nops RepresentsDown nops_piecewise wire.delivery_goes_on) wire.wrong_is_final (writes_are_marked c.what_is_believed_has_a_size.ensures.meets messages.header messages.header_or_fault c.sent_is_read.ensures)

pub returns-clause-not_refused : goal.returns-clause-not_refused
returns-clause-not_refused c =
    let messages = c.one_reading.ensures in
    let wire = c.one_reading-2.ensures in
    down_is_not_refused (term_takes c.what_is_believed_has_a_size.ensures.meets messages.header messages.header_or_fault c.sent_is_read.ensures) (takes_keep_sendable c.what_is_believed_has_a_size.ensures.meets) nop_has_no_effect
    (stands_go_on without_nops RepresentsDown nops_piecewise wire.delivery_goes_on) wire.wrong_is_final

pub returns-clause-host_sends : goal.returns-clause-host_sends
returns-clause-host_sends c =
    let wire = c.one_reading-2.ensures in
    host_sends (stands_compose without_nops RepresentsDown nops_piecewise wire.deliveries wire.written)

pub returns-clause-nop_sent : goal.returns-clause-nop_sent
returns-clause-nop_sent c =
    let wire = c.one_reading-2.ensures in
    nop_stands (stands_compose without_nops RepresentsDown nops_piecewise wire.deliveries wire.written)

pub returns-clause-up : goal.returns-clause-up
returns-clause-up c = up_stands (stands_go_on all_items RepresentsUp all_piecewise c.one_reading-2.ensures.delivery_goes_on)

pub returns-clause-loss : goal.returns-clause-loss
returns-clause-loss c = loss_stands

pub returns-clause-host_leaves : goal.returns-clause-host_leaves
returns-clause-host_leaves c = host_leaves

pub returns-clause-term_leaves : goal.returns-clause-term_leaves
returns-clause-term_leaves c = term_leaves

pub returns-clause-coming : goal.returns-clause-coming
returns-clause-coming c = what_comes_may_come c.what_is_given.ensures
