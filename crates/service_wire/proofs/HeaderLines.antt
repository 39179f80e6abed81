-- The line before the first CRLF, byte by byte.
use Rattle.std.proofs.Common.{◌≡◌, ℕ, ◌+◌, ◌<◌, ◌≤◌, true, false, List, [], ◌∷◌, ◌++◌, length, take, drop, get_or, Option, Some, None, option_map, refl, sym, ap, ◌∙◌, add-one, drop-cons, append_assoc, append-nil}
use Rattle.std.proofs.lemmas.List.{take_more, drop_all}
use Rattle.service_wire.specs.HeaderLine.{begins_with_crlf, line_in}

-- holds if the line is looked for from this place on
abbrev pub LooksFrom : List ℕ → ℕ → Type 0
LooksFrom bytes place = line_in bytes ≡ option_map (λ line. take place bytes ++ line) (line_in (drop place bytes))

same_option : (o : Option (List ℕ)) → o ≡ option_map (λ line. [] ++ line) o
same_option None = refl
same_option (Some line) = refl

pub looks_at_first : (bytes : List ℕ) → LooksFrom bytes 0
looks_at_first bytes = same_option (line_in bytes)

in_front : (front : List ℕ) (byte : ℕ) (o : Option (List ℕ)) → option_map (λ line. front ++ line) (option_map (λ line. byte ∷ line) o) ≡ option_map (λ line. (front ++ byte ∷ []) ++ line) o
in_front front byte None = refl
in_front front byte (Some line) = ap Some (sym (append_assoc front (byte ∷ []) line))

pub not_here : (byte : ℕ) (rest : List ℕ) → begins_with_crlf (byte ∷ rest) ≡ false → line_in (byte ∷ rest) ≡ option_map (λ line. byte ∷ line) (line_in rest)
unfolding line_in
not_here byte rest other = rw other

pub here : (bytes : List ℕ) → begins_with_crlf bytes ≡ true → line_in bytes ≡ Some []
unfolding line_in
here [] is = cc
here (byte ∷ rest) is = rw is

pub looks_on : (bytes : List ℕ) (place : ℕ) → place < length bytes → begins_with_crlf (drop place bytes) ≡ false → LooksFrom bytes place → LooksFrom bytes (place + 1)
looks_on bytes place inside other from =
    let cut : drop place bytes ≡ get_or bytes place 0 ∷ drop (place + 1) bytes = rw add-one (drop-cons bytes place 0 inside) in
    let step = not_here (get_or bytes place 0) (drop (place + 1) bytes) (rw cut at other) in
    rw (take_more bytes place 0 inside)
    (from ∙ ap (λ rest. option_map (λ line. take place bytes ++ line) (line_in rest)) cut ∙ ap (option_map (λ line. take place bytes ++ line)) step
    ∙ in_front (take place bytes) (get_or bytes place 0) (line_in (drop (place + 1) bytes)))

pub line_is : (bytes : List ℕ) (place : ℕ) → begins_with_crlf (drop place bytes) ≡ true → LooksFrom bytes place → line_in bytes ≡ Some (take place bytes)
line_is bytes place is from =
    from ∙ ap (option_map (λ line. take place bytes ++ line)) (here (drop place bytes) is) ∙ ap Some (append-nil (take place bytes))

pub line_in-nil : line_in [] ≡ None
unfolding line_in
line_in-nil = refl

pub no_line : (bytes : List ℕ) (place : ℕ) → length bytes ≤ place → LooksFrom bytes place → line_in bytes ≡ None
no_line bytes place end from =
    from ∙ ap (λ rest. option_map (λ line. take place bytes ++ line) (line_in rest)) (drop_all place bytes end) ∙ ap (option_map (λ line. take place bytes ++ line)) line_in-nil
