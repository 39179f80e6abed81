-- Bytes cut in two read as the whole.
use Rattle.std.proofs.Common.{◌≡◌, List, [], ◌∷◌, refl, ap, sym, append_assoc, ◌∙◌}
use Rattle.tty.specs.declared.keystroke.Keystroke.{Keystroke}
use Rattle.tty.specs.KeyLaws.{PiecesCompose}
use Rattle.tty.specs.KeyReading.{Reading, joined, read_byte, read_bytes}

joined_assoc : (x y z : Reading) → joined x (joined y z) ≡ joined (joined x y) z
joined_assoc x y z = ap (λ (keystrokes : List Keystroke). record { keystrokes = keystrokes; kept = z.kept }) (sym (append_assoc x.keystrokes y.keystrokes z.keystrokes))

pub pieces_compose : PiecesCompose
pieces_compose kept [] back = refl
pieces_compose kept (byte ∷ front) back =
    let first = read_byte kept byte in
    ap (joined first) (pieces_compose first.kept front back) ∙ joined_assoc first (read_bytes first.kept front) (read_bytes (read_bytes first.kept front).kept back)
