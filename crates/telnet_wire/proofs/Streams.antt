-- A stream in pieces is the stream in one.
use Rattle.std.proofs.Common.{◌≡◌, ℕ, List, [], ◌∷◌, ◌++◌, refl, sym, ◌∙◌, ap, subst, arith, append_assoc}
use Rattle.std.specs.List.{AllByRecursion, flat_map}
use Rattle.std.specs.Option.{option_to_list}
use Rattle.std.proofs.lemmas.List.{append-nil}
use Rattle.std.proofs.lemmas.Grind.{flat_map-append}
use Rattle.telnet_wire.specs.Token.{Token, Data, End, Opt, Sub, Other, spelling, text, IsToken, IsShort}
use Rattle.telnet_wire.specs.Items.{Record, Opt as OptItem, Sub as SubItem, Other as OtherItem, items_after, unfinished_after, record_tokens, item_tokens}
use Rattle.telnet_wire.specs.Reading.{Rest, nothing, IsRest, Delivers}
use Rattle.telnet_wire.specs.Laws.{ReadingNothing, NothingIsRest, ReadingsCompose, DeliveriesCompose, WrongPiece, TakenIsRead, ItemIsRead, ItemsAreRead}
use Rattle.telnet_wire.proofs.Steps.{nothing_yet}

pub items_after-append : (d : List ℕ) (ts us : List Token) → items_after d (ts ++ us) ≡ items_after d ts ++ items_after (unfinished_after d ts) us
items_after-append d [] us = refl
items_after-append d (Data b ∷ ts) us = items_after-append (d ++ b ∷ []) ts us
items_after-append d (End ∷ ts) us = ap (λ z. Record d ∷ z) (items_after-append [] ts us)
items_after-append d (Opt v c ∷ ts) us = ap (λ z. OptItem v c ∷ z) (items_after-append d ts us)
items_after-append d (Sub s ∷ ts) us = ap (λ z. SubItem s ∷ z) (items_after-append d ts us)
items_after-append d (Other c ∷ ts) us = ap (λ z. OtherItem c ∷ z) (items_after-append d ts us)

pub unfinished_after-append : (d : List ℕ) (ts us : List Token) → unfinished_after d (ts ++ us) ≡ unfinished_after (unfinished_after d ts) us
unfinished_after-append d [] us = refl
unfinished_after-append d (Data b ∷ ts) us = unfinished_after-append (d ++ b ∷ []) ts us
unfinished_after-append d (End ∷ ts) us = unfinished_after-append [] ts us
unfinished_after-append d (Opt v c ∷ ts) us = unfinished_after-append d ts us
unfinished_after-append d (Sub s ∷ ts) us = unfinished_after-append d ts us
unfinished_after-append d (Other c ∷ ts) us = unfinished_after-append d ts us

pub all-append : {A : Type 0} (P : A → Type 0) (xs ys : List A) → AllByRecursion P xs → AllByRecursion P ys → AllByRecursion P (xs ++ ys)
all-append P [] ys p q = q
all-append P (x ∷ xs) ys p q = (p.0, all-append P xs ys p.1 q)

pub readings_compose : ReadingsCompose
readings_compose limit from mid to first second ts us b c = record {
  encoded = sym (append_assoc from.partial first second) ∙ ap (λ z. z ++ second) b.encoded ∙ append_assoc (text ts) mid.partial second
      ∙ ap (λ z. text ts ++ z) c.encoded ∙ sym (append_assoc (text ts) (text us) to.partial)
      ∙ ap (λ z. z ++ to.partial) (sym (flat_map-append spelling ts us));
  unfinished = rw (unfinished_after-append from.unfinished ts us, ← b.unfinished) c.unfinished;
  each = all-append _ ts us b.each c.each;
  short = all-append _ ts us b.short c.short;
  records = rw (items_after-append from.unfinished ts us, ← b.unfinished) (all-append _ _ _ b.records c.records);
}

pub wrong_piece : WrongPiece
wrong_piece limit from mid first second ts fault b c = record {
  tokens = ts ++ c.tokens;
  to = c.to;
  reads = readings_compose limit from mid c.to first second ts c.tokens b c.reads;
  is_wrong = c.is_wrong;
}

pub reading_nothing : ReadingNothing
reading_nothing limit rest = record { encoded = append-nil rest.partial; unfinished = refl; each = tt; short = tt; records = tt }

pub nothing_is_rest : NothingIsRest
nothing_is_rest limit = record { unfinished = omega arith; partial = nothing_yet }

pub delivers_nothing : (limit : ℕ) (rest : Rest) → IsRest limit rest → Delivers limit rest [] [] rest
delivers_nothing limit rest is_rest = record { tokens = []; reads = reading_nothing limit rest; is_rest = is_rest; said = refl }

pub deliveries_compose : DeliveriesCompose
deliveries_compose limit from mid to first second xs ys a b = record {
  tokens = a.tokens ++ b.tokens;
  reads = readings_compose limit from mid to first second a.tokens b.tokens a.reads b.reads;
  is_rest = b.is_rest;
  said = ap (λ z. xs ++ z) (b.said ∙ ap (λ u. items_after u b.tokens) a.reads.unfinished)
      ∙ ap (λ z. z ++ items_after (unfinished_after from.unfinished a.tokens) b.tokens) a.said
      ∙ sym (items_after-append from.unfinished a.tokens b.tokens);
}

pub taken_is_read : TakenIsRead
taken_is_read old new [] items is_rest (none, same) = rw (none, same) (delivers_nothing old.limit old.rest is_rest)
taken_is_read old new (byte ∷ bytes) items is_rest (next, others, takes, are, more) =
    let rest : IsRest next.limit next.rest = subst (λ limit. IsRest limit next.rest) (sym takes.limit) takes.delivers.is_rest in
    let read = taken_is_read next new bytes others rest more in
    rw are (deliveries_compose old.limit old.rest next.rest new.rest (byte ∷ []) bytes (option_to_list next.ready) others takes.delivers
    (subst (λ limit. Delivers limit next.rest bytes others new.rest) takes.limit read))

-- the data of a record, and its end
record_said : (before bytes : List ℕ) → items_after before (record_tokens bytes) ≡ Record (before ++ bytes) ∷ []
record_said before [] = ap (λ z. Record z ∷ []) (sym (append-nil before))
record_said before (b ∷ bytes) = record_said (before ++ b ∷ []) bytes ∙ ap (λ z. Record z ∷ []) (append_assoc before (b ∷ []) bytes)

record_ended : (before bytes : List ℕ) → unfinished_after before (record_tokens bytes) ≡ []
record_ended before [] = refl
record_ended before (b ∷ bytes) = record_ended (before ++ b ∷ []) bytes

record_each : (bytes : List ℕ) → AllByRecursion IsToken (record_tokens bytes)
record_each [] = (tt, tt)
record_each (b ∷ bytes) = (tt, record_each bytes)

record_short : (bytes : List ℕ) → AllByRecursion IsShort (record_tokens bytes)
record_short [] = (tt, tt)
record_short (b ∷ bytes) = (tt, record_short bytes)

pub item_is_read : ItemIsRead
item_is_read limit (Record bytes) come = record {
  tokens = record_tokens bytes;
  reads = record {
    encoded = sym (append-nil (text (record_tokens bytes)));
    unfinished = sym (record_ended [] bytes);
    each = record_each bytes;
    short = record_short bytes;
    records = rw (record_said [] bytes) (come, tt);
  };
  is_rest = nothing_is_rest limit;
  said = sym (record_said [] bytes);
}
item_is_read limit (OptItem verb code) come = record {
  tokens = Opt verb code ∷ [];
  reads = record { encoded = refl; unfinished = refl; each = (tt, tt); short = (tt, tt); records = (tt, tt) };
  is_rest = nothing_is_rest limit;
  said = refl;
}
item_is_read limit (SubItem bytes) come = record {
  tokens = Sub bytes ∷ [];
  reads = record { encoded = sym (append-nil (text (Sub bytes ∷ []))); unfinished = refl; each = (tt, tt); short = (come, tt); records = (tt, tt) };
  is_rest = nothing_is_rest limit;
  said = refl;
}
item_is_read limit (OtherItem code) come = record {
  tokens = Other code ∷ [];
  reads = record { encoded = refl; unfinished = refl; each = (come, tt); short = (tt, tt); records = (tt, tt) };
  is_rest = nothing_is_rest limit;
  said = refl;
}

pub items_are_read : ItemsAreRead
items_are_read limit [] come = delivers_nothing limit nothing (nothing_is_rest limit)
items_are_read limit (item ∷ items) come =
    rw (flat_map-append spelling (item_tokens item) (flat_map item_tokens items))
    (deliveries_compose limit nothing nothing nothing (text (item_tokens item)) (text (flat_map item_tokens items)) (item ∷ []) items
    (item_is_read limit item come.0) (items_are_read limit items come.1))
