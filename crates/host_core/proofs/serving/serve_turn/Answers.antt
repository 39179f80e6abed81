use Rattle.std.proofs.Common.{◌≡◌, ◌∙◌, ℕ, List, [], ap, length, take, refl, sym, subst}
use Rattle.host_core.specs.Serves.{Responds, SendsOut, Serves, read_room, sent_from}
use Rattle.host_core.specs.State.{connection_at}
use Rattle.host_core.proofs.Turns.{is_no_out, is_some_out, none_sent}
use Rattle.host_core.proofs.serving.serve_turn.Goals as goal

pub returns-in_default-clause-serves : goal.returns-in_default-clause-serves
returns-in_default-clause-serves g c =
    let whole : length c.read.new.buffer ≡ read_room = c.read.auto.buffer in
    Serves.over c.read.result (subst (λ (room : ℕ). g.L.Links.gave c.args.links.now c.args.conn room [] c.read.result c.read.new.self) whole
    (subst (λ (bytes : List ℕ). g.L.Links.gave c.args.links.now c.args.conn (length c.read.new.buffer) bytes c.read.result c.read.new.self) (c.in_default.ensures.none c.read.new.buffer) c.read.ensures.gave))
    c.in_default.ensures.over refl refl

pub returns-in-Memory-clause-serves : goal.returns-in-Memory-clause-serves
returns-in-Memory-clause-serves g c =
    let whole : length c.read.new.buffer ≡ read_room = c.read.auto.buffer in
    let gave = subst (λ (room : ℕ). g.L.Links.gave c.args.links.now c.args.conn room (take c.in-Some.count c.read.new.buffer) c.read.result c.read.new.self) whole
    (subst (λ (bytes : List ℕ). g.L.Links.gave c.args.links.now c.args.conn (length c.read.new.buffer) bytes c.read.result c.read.new.self) (c.in-Some.ensures.got c.read.new.buffer) c.read.ensures.gave) in
    Serves.starved c.read.result _ gave c.in-Some.ensures.goes_on (Responds.unfed c.feed.result (record { feeds = c.feed.ensures.fed; others = c.feed.ensures.others; holders = c.feed.ensures.holders }) c.in-Memory.is refl) refl

pub returns-in-Memory-act-clause-serves : goal.returns-in-Memory-act-clause-serves
returns-in-Memory-act-clause-serves g c =
    let whole : length c.read.new.buffer ≡ read_room = c.read.auto.buffer in
    let gave = subst (λ (room : ℕ). g.L.Links.gave c.args.links.now c.args.conn room (take c.in-Some.count c.read.new.buffer) c.read.result c.read.new.self) whole
    (subst (λ (bytes : List ℕ). g.L.Links.gave c.args.links.now c.args.conn (length c.read.new.buffer) bytes c.read.result c.read.new.self) (c.in-Some.ensures.got c.read.new.buffer) c.read.ensures.gave) in
    Serves.starved c.read.result _ gave c.in-Some.ensures.goes_on
    (Responds.idle c.feed.result c.feed.new.self (record { feeds = c.feed.ensures.fed; others = c.feed.ensures.others; holders = c.feed.ensures.holders }) c.in_default-stop.not-Memory
    (record { does = c.in-Memory-act.ensures.acted; others = c.in-Memory-act.ensures.others }) refl) refl

pub returns-then-is_empty-clause-serves : goal.returns-then-is_empty-clause-serves
returns-then-is_empty-clause-serves g c =
    let whole : length c.read.new.buffer ≡ read_room = c.read.auto.buffer in
    let gave = subst (λ (room : ℕ). g.L.Links.gave c.args.links.now c.args.conn room (take c.in-Some.count c.read.new.buffer) c.read.result c.read.new.self) whole
    (subst (λ (bytes : List ℕ). g.L.Links.gave c.args.links.now c.args.conn (length c.read.new.buffer) bytes c.read.result c.read.new.self) (c.in-Some.ensures.got c.read.new.buffer) c.read.ensures.gave) in
    Serves.served c.read.result _ c.keep_asked.new.self c.read.new.self gave c.in-Some.ensures.goes_on
    (Responds.acts c.feed.result c.feed.new.self c.act.new.self c.act.result (record { feeds = c.feed.ensures.fed; others = c.feed.ensures.others; holders = c.feed.ensures.holders }) c.in_default-stop.not-Memory
    (record { does = c.act.ensures.acted; others = c.act.ensures.others }) c.in_default-act.not-Memory c.keep_asked.ensures refl)
    (SendsOut.nothing (is_no_out c.out.result.now (connection_at c.args.conn c.keep_asked.new.self).out c.out.ensures (sym c.is_empty.ensures ∙ c.if-is_empty.true)) refl refl) c.after.ensures.sound

pub returns-in_default-count-clause-serves : goal.returns-in_default-count-clause-serves
returns-in_default-count-clause-serves g c =
    let whole : length c.read.new.buffer ≡ read_room = c.read.auto.buffer in
    let gave = subst (λ (room : ℕ). g.L.Links.gave c.args.links.now c.args.conn room (take c.in-Some.count c.read.new.buffer) c.read.result c.read.new.self) whole
    (subst (λ (bytes : List ℕ). g.L.Links.gave c.args.links.now c.args.conn (length c.read.new.buffer) bytes c.read.result c.read.new.self) (c.in-Some.ensures.got c.read.new.buffer) c.read.ensures.gave) in
    Serves.served c.read.result _ c.keep_asked.new.self c.read.new.self gave c.in-Some.ensures.goes_on
    (Responds.acts c.feed.result c.feed.new.self c.act.new.self c.act.result (record { feeds = c.feed.ensures.fed; others = c.feed.ensures.others; holders = c.feed.ensures.holders }) c.in_default-stop.not-Memory
    (record { does = c.act.ensures.acted; others = c.act.ensures.others }) c.in_default-act.not-Memory c.keep_asked.ensures refl)
    (SendsOut.handed c.write.result (is_some_out c.out.result.now (connection_at c.args.conn c.keep_asked.new.self).out c.out.ensures (sym c.is_empty.ensures ∙ c.if-is_empty.false)) (subst (λ (bytes : List ℕ). g.L.Links.took c.read.new.self c.args.conn bytes c.write.result c.write.new.self) c.out-2.ensures c.write.ensures.took)
    (none_sent c.args.conn c.keep_asked.new.self ∙ ap (λ (count : ℕ). sent_from c.args.conn count c.keep_asked.new.self) (sym c.in_default-count.ensures.none)))
    (λ e. cc)

pub returns-clause-serves : goal.returns-clause-serves
returns-clause-serves g c =
    let whole : length c.read.new.buffer ≡ read_room = c.read.auto.buffer in
    let gave = subst (λ (room : ℕ). g.L.Links.gave c.args.links.now c.args.conn room (take c.in-Some.count c.read.new.buffer) c.read.result c.read.new.self) whole
    (subst (λ (bytes : List ℕ). g.L.Links.gave c.args.links.now c.args.conn (length c.read.new.buffer) bytes c.read.result c.read.new.self) (c.in-Some.ensures.got c.read.new.buffer) c.read.ensures.gave) in
    Serves.served c.read.result _ c.keep_asked.new.self c.read.new.self gave c.in-Some.ensures.goes_on
    (Responds.acts c.feed.result c.feed.new.self c.act.new.self c.act.result (record { feeds = c.feed.ensures.fed; others = c.feed.ensures.others; holders = c.feed.ensures.holders }) c.in_default-stop.not-Memory
    (record { does = c.act.ensures.acted; others = c.act.ensures.others }) c.in_default-act.not-Memory c.keep_asked.ensures refl)
    (SendsOut.handed c.write.result (is_some_out c.out.result.now (connection_at c.args.conn c.keep_asked.new.self).out c.out.ensures (sym c.is_empty.ensures ∙ c.if-is_empty.false)) (subst (λ (bytes : List ℕ). g.L.Links.took c.read.new.self c.args.conn bytes c.write.result c.write.new.self) c.out-2.ensures c.write.ensures.took)
    (c.sent.ensures ∙ ap (λ (count : ℕ). sent_from c.args.conn count c.keep_asked.new.self) c.in-Some-count.ensures.taken))
    c.after-2.ensures.sound
