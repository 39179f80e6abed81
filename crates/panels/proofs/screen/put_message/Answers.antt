use Rattle.std.proofs.Common.{◌≡◌, ◌<◌, ◌+◌, ◌∙◌, ap, sym, subst, arith, true}
use Rattle.codes3270.specs.Size.{ScreenSize, cells_in}
use Rattle.datastream.specs.declared.wanted.Want.TheVariants as want
use Rattle.panels.specs.Size.{message_start}
use Rattle.panels.specs.Screen.{item_cell, autoskip_attr}
use Rattle.panels.specs.Put.{text_with}
use Rattle.panels.proofs.Putting.{put_first, put_next, character_at, row_put}
use Rattle.panels.proofs.screen.put_message.Goals as goal

pub put-requires-clause-in_range : goal.put-requires-clause-in_range
put-requires-clause-in_range c =
    let within : c.from-start.result < cells_in c.size-size.result = omega arith in
    subst (λ shape. c.from-start.result < cells_in shape) c.size-size.ensures.size within

pub loop-index-init : goal.loop-index-init
loop-index-init c =
    let first : want.Attr c.skipped_attr.result ≡ want.Attr (autoskip_attr true) = ap want.Attr c.skipped_attr.ensures in
    let start : message_start c.size-size.result ≡ c.from-start.result = omega arith in
    let place : message_start c.args.wanted.now.size ≡ c.from-start.result = ap message_start (sym c.size-size.ensures.size) ∙ start in
    let below : c.from-start.result + 0 < cells_in c.size-size.result = omega arith in
    let within : c.from-start.result + 0 < cells_in c.args.wanted.now.size = subst (λ shape. c.from-start.result + 0 < cells_in shape) c.size-size.ensures.size below in
    rw place (put_first c.from-start.result (item_cell (autoskip_attr true) (text_with c.args.title.now c.args.message.now)) _ c.args.wanted.now _ first within c.put.ensures.put c.put.ensures.size)

pub put-requires-in-loop-index-clause-in_range : goal.put-requires-in-loop-index-clause-in_range
put-requires-in-loop-index-clause-in_range c =
    let within : c.from-start.result + 1 + c.loop-index.index < cells_in c.size-size.result = omega arith in
    subst (λ shape. c.from-start.result + 1 + c.loop-index.index < cells_in shape) (c.size-size.ensures.size ∙ sym c.loop-index.invariant.0) within

pub loop-index-preserved : goal.loop-index-preserved
loop-index-preserved c =
    let start : c.from-start.result ≡ message_start c.size-size.result = omega arith in
    let place : c.from-start.result ≡ message_start c.args.wanted.now.size = start ∙ ap message_start c.size-size.ensures.size in
    let below : message_start c.size-size.result + (c.loop-index.index + 1) < cells_in c.size-size.result = omega arith in
    let within = subst (λ (shape : ScreenSize). message_start shape + (c.loop-index.index + 1) < cells_in shape) c.size-size.ensures.size below in
    let there : c.from-start.result + 1 + c.loop-index.index ≡ message_start c.args.wanted.now.size + (c.loop-index.index + 1) = omega (arith, place) in
    put_next (message_start c.args.wanted.now.size) (c.loop-index.index + 1) _ (item_cell (autoskip_attr true) (text_with c.args.title.now c.args.message.now)) c.args.wanted.now _
    c.loop-index.wanted _ there (character_at (autoskip_attr true) (text_with c.args.title.now c.args.message.now) c.loop-index.index _ c.message_byte-byte.ensures.byte) within
    c.put-in-loop-index.ensures.put c.put-in-loop-index.ensures.size c.loop-index.invariant

pub returns : goal.returns
returns c =
    let all : message_start c.size-size.result + (c.loop-index.index + 1) ≡ cells_in c.size-size.result = omega arith in
    row_put (message_start c.args.wanted.now.size) (c.loop-index.index + 1) (text_with c.args.title.now c.args.message.now) c.args.wanted.now c.loop-index.wanted
    (subst (λ (shape : ScreenSize). message_start shape + (c.loop-index.index + 1) ≡ cells_in shape) c.size-size.ensures.size all) c.loop-index.invariant
