use Rattle.std.proofs.Common.{◌≡◌, ℕ, ◌-◌, ◌++◌, List, ◌∙◌, ap}
use Rattle.tty.specs.declared.picture.PictureCell.{PictureCell}
use Rattle.tty.specs.StatusRow.{connection_word, reason, seconds_text, signs, in_columns, keys_hint, position_text}
use Rattle.tty.proofs.Columns.{seven_added, ok_then}
use Rattle.tty.proofs.picture.put_status.Goals as goal

pub returns : goal.returns
returns c =
    let before : List PictureCell = c.args.cells.now.items in
    let a : List PictureCell = in_columns 16 (connection_word c.args.status.now.connected) in
    let b : List PictureCell = in_columns 13 (reason c.args.keyboard.lock c.args.status.now.trouble) in
    let t : List PictureCell = in_columns 3 (seconds_text c.args.status.now.seconds) in
    let d : List PictureCell = in_columns 8 (signs c.args.keyboard.inserting c.args.status.now.held) in
    let e : List PictureCell = in_columns 15 c.args.status.now.lu.now in
    let h : List PictureCell = in_columns 17 keys_hint in
    let f : List PictureCell = in_columns (c.args.columns - 72) (position_text c.args.cursor) in
    let first : c.put_text.new.cells.items ≡ before ++ a =
    c.in_ok-put_text.ensures ∙ ap (λ (text : List ℕ). before ++ in_columns 16 text) c.connection_word.ensures in
    let second : c.put_text-2.new.cells.items ≡ (before ++ a) ++ b =
    c.in_ok-put_text-2.ensures ∙ ap (λ (items : List PictureCell). items ++ in_columns 13 c.reason.result.now) first
    ∙ ap (λ (text : List ℕ). (before ++ a) ++ in_columns 13 text) (c.reason.ensures ∙ ap (λ lock. reason lock c.args.status.now.trouble) c.lock.ensures) in
    let timed : c.put_text-3.new.cells.items ≡ ((before ++ a) ++ b) ++ t =
    c.in_ok-put_text-3.ensures ∙ ap (λ (items : List PictureCell). items ++ in_columns 3 c.seconds_text.result) second
    ∙ ap (λ (text : List ℕ). ((before ++ a) ++ b) ++ in_columns 3 text) c.seconds_text.ensures in
    let third : c.put_text-4.new.cells.items ≡ (((before ++ a) ++ b) ++ t) ++ d =
    c.in_ok-put_text-4.ensures ∙ ap (λ (items : List PictureCell). items ++ in_columns 8 c.signs.result.now) timed
    ∙ ap (λ (text : List ℕ). (((before ++ a) ++ b) ++ t) ++ in_columns 8 text) (c.signs.ensures ∙ ap (λ inserting. signs inserting c.args.status.now.held) c.inserting.ensures) in
    let fourth : c.put_text-5.new.cells.items ≡ ((((before ++ a) ++ b) ++ t) ++ d) ++ e =
    c.in_ok-put_text-5.ensures ∙ ap (λ (items : List PictureCell). items ++ e) third in
    let fifth : c.put_text-6.new.cells.items ≡ (((((before ++ a) ++ b) ++ t) ++ d) ++ e) ++ h =
    c.in_ok-put_text-6.ensures ∙ ap (λ (items : List PictureCell). items ++ h) fourth in
    ok_then c.put_text-7.result
    (λ (last : c.put_text-7.new.cells.items ≡ c.put_text-6.new.cells.items ++ in_columns (c.args.columns - 72) c.position_text.result).
    last ∙ ap (λ (text : List ℕ). c.put_text-6.new.cells.items ++ in_columns (c.args.columns - 72) text) c.position_text.ensures
    ∙ ap (λ (items : List PictureCell). items ++ f) fifth ∙ seven_added before a b t d e h f)
    c.put_text-7.ensures
