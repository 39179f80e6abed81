use Rattle.std.proofs.Common.{ℕ, ◌++◌, ap, ◌∙◌, take, length, ◌-◌, replicate}
use Rattle.datastream.specs.Writing.{order_bytes}
use Rattle.datastream.specs.declared.order.Order.TheVariants.{Sba}
use Rattle.host_core.proofs.NoteBytes.{note_written}
use Rattle.host_core.proofs.noting.write_note.Goals as goal

pub returns-clause-appended : goal.returns-clause-appended
returns-clause-appended c =
    note_written c.args.size c.args.text.now c.front_of-front.result.now c.nulls.result.now c.args.writer.now.out.now.items c.begin.new.self.out.now.items c.sba.new.self.out.now.items c.put_text.new.writer.out.now.items c.put_text-2.new.writer.out.now.items
    (c.front_of-front.ensures.front ∙ ap (λ (room : ℕ). take room c.args.text.now) c.room_in-room.ensures.room)
    (c.nulls.ensures.nulls ∙ ap (λ (room : ℕ). replicate (room - length c.front_of-front.result.now) 0) c.room_in-room.ensures.room) (rw c.unwrap.ensures at c.begin.ensures.appends.ok) (rw c.unwrap-2.ensures at c.sba.ensures.appends.ok ∙ ap (λ (place : ℕ). c.begin.new.self.out.now.items ++ order_bytes (Sba place)) c.note_place.ensures.place)
    c.put_text.ensures.appended c.put_text-2.ensures.appended
