-- What each byte makes of what a decoder holds.
use Rattle.std.proofs.Common.{◌≡◌, ◌≢◌, ℕ, ◌<◌, ◌≤◌, inl, inr, false, List, [], ◌∷◌, ◌++◌, length, Option, None, Some, refl, sym, ◌∙◌, ap, arith, append_assoc}
use Rattle.std.specs.List.{flat_map, AllByRecursion}
use Rattle.std.specs.Option.{option_to_list}
use Rattle.std.proofs.lemmas.List.{append-nil, length_push}
use Rattle.std.proofs.lemmas.Grind.{flat_map-append}
use Rattle.telnet_wire.specs.declared.wire.Verb.{Verb}
use Rattle.telnet_wire.specs.declared.wire.WireFault.{WireFault}
use Rattle.telnet_wire.specs.declared.wire.WireFault.TheVariants.{TooLong, BadSub}
use Rattle.telnet_wire.specs.declared.decoding.DecoderState.TheVariants.{Between, Done, AfterIac, AfterVerb, InSub, AfterIacInSub}
use Rattle.telnet_wire.specs.declared.decoding.Completed.TheVariants.{Record as IsRecord, Opt as IsOpt, Sub as IsSub, Other as IsOther}
use Rattle.telnet_wire.specs.Token.{Token, Data, End, Opt, Sub, Other, escaped, code_of, opened, spelling, IsToken, IsShort, IsPartial, IsOtherCode}
use Rattle.telnet_wire.specs.Items.{WireItem, items_after, unfinished_after, IsWithin}
use Rattle.telnet_wire.specs.Reading.{IsWrong, GoesWrong}
use Rattle.telnet_wire.specs.DecoderValue.{DecoderValue, Takes, Refuses}
use Rattle.telnet_wire.specs.Bounded.{Bounded, with_byte}
use Rattle.telnet_wire.specs.DecoderStates.{held}
use Rattle.telnet_wire.proofs.Prefixes.{escaped-plain}

abbrev holding : ℕ → List ℕ → List ℕ → Option WireItem → DecoderValue
holding limit unfinished partial ready = record {
  limit = limit;
  rest = record { unfinished = unfinished; partial = partial };
  ready = ready;
  failed = false;
}

-- no token is complete
goes_on : (limit : ℕ) (unfinished before after : List ℕ) (byte : ℕ) (ready : Option WireItem)
    → before ++ byte ∷ [] ≡ after → length unfinished ≤ limit → IsPartial after
    → Takes (holding limit unfinished before ready) byte (holding limit unfinished after None)
goes_on limit unfinished before after byte ready encoded fits part = record {
  delivers = record {
    tokens = [];
    reads = record { encoded = encoded; unfinished = refl; each = tt; short = tt; records = tt };
    is_rest = record { unfinished = fits; partial = part };
    said = refl;
  };
  ran = refl;
  runs = refl;
  limit = refl;
}

-- the bytes of the token that has begun are wrong
goes_wrong : (limit : ℕ) (unfinished before after : List ℕ) (byte : ℕ) (fault : WireFault) → before ++ byte ∷ [] ≡ after
    → IsWrong limit (record { unfinished = unfinished; partial = after }) fault
    → GoesWrong limit (record { unfinished = unfinished; partial = before }) (byte ∷ []) fault
goes_wrong limit unfinished before after byte fault encoded wrong = record {
  tokens = [];
  to = record { unfinished = unfinished; partial = after };
  reads = record { encoded = encoded; unfinished = refl; each = tt; short = tt; records = tt };
  is_wrong = wrong;
}

pub nothing_yet : IsPartial []
nothing_yet = record { token = End; missing = 255 ∷ 239 ∷ []; proper = λ e. cc; is_token = tt; is_short = tt; encoded = refl }

-- a token is complete
completes : (limit : ℕ) (unfinished before : List ℕ) (byte : ℕ) (ready : Option WireItem) (token : Token) (now : Option WireItem)
    → before ++ byte ∷ [] ≡ spelling token → IsToken token → IsShort token
    → option_to_list now ≡ items_after unfinished (token ∷ [])
    → AllByRecursion (IsWithin limit) (items_after unfinished (token ∷ []))
    → length (unfinished_after unfinished (token ∷ [])) ≤ limit
    → Takes (holding limit unfinished before ready) byte (holding limit (unfinished_after unfinished (token ∷ [])) [] now)
completes limit unfinished before byte ready token now encoded whole short items within fits = record {
  delivers = record {
    tokens = token ∷ [];
    reads = record {
      encoded = encoded ∙ sym (append-nil (spelling token)) ∙ sym (append-nil (spelling token ++ []));
      unfinished = refl;
      each = (whole, tt);
      short = (short, tt);
      records = within;
    };
    is_rest = record { unfinished = fits; partial = nothing_yet };
    said = items;
  };
  ran = refl;
  runs = refl;
  limit = refl;
}

module _ (gathered : Bounded) (content : List ℕ) where
  pub meets_iac : length gathered.bytes ≤ gathered.limit → Takes (held Between gathered content) 255 (held AfterIac gathered content)
  meets_iac fits = goes_on _ _ _ _ _ _ refl fits
      (record { token = End; missing = 239 ∷ []; proper = λ e. cc; is_token = tt; is_short = tt; encoded = refl })

  pub takes_data : (byte : ℕ) → byte ≢ 255 → length gathered.bytes < gathered.limit
      → Takes (held Between gathered content) byte (held Between (with_byte gathered byte) content)
  takes_data byte plain fits = completes _ _ _ _ _ (Data byte) None (sym (escaped-plain byte plain)) tt tt refl tt
      (omega (arith, length_push gathered.bytes byte))

  pub refuses_data : (byte : ℕ) → byte ≢ 255 → length gathered.bytes ≡ gathered.limit → Refuses (held Between gathered content) byte TooLong
  refuses_data byte plain full = (refl, goes_wrong _ _ _ _ _ _ refl (inl (byte, sym (escaped-plain byte plain), full)))

  pub takes_doubled : length gathered.bytes < gathered.limit
      → Takes (held AfterIac gathered content) 255 (held Between (with_byte gathered 255) content)
  takes_doubled fits = completes _ _ _ _ _ (Data 255) None refl tt tt refl tt
      (omega (arith, length_push gathered.bytes 255))

  pub refuses_doubled : length gathered.bytes ≡ gathered.limit → Refuses (held AfterIac gathered content) 255 TooLong
  refuses_doubled full = (refl, goes_wrong _ _ _ _ _ _ refl (inl (255, refl, full)))

  pub ends_record : length gathered.bytes ≤ gathered.limit
      → Takes (held AfterIac gathered content) 239 (held (Done IsRecord) gathered content)
  ends_record fits = completes _ _ _ _ _ End (Some _) refl tt tt refl (fits, tt) (omega arith)

  pub opens_sub : length gathered.bytes ≤ gathered.limit
      → Takes (held AfterIac gathered content) 250 (held InSub gathered [])
  opens_sub fits = goes_on _ _ _ _ _ _ refl fits
      (record { token = Sub []; missing = 255 ∷ 240 ∷ []; proper = λ e. cc; is_token = tt; is_short = omega arith; encoded = refl })

  pub meets_verb : (verb : Verb) → length gathered.bytes ≤ gathered.limit
      → Takes (held AfterIac gathered content) (code_of verb) (held (AfterVerb verb) gathered content)
  meets_verb verb fits = goes_on _ _ _ _ _ _ refl fits
      (record { token = Opt verb 0; missing = 0 ∷ []; proper = λ e. cc; is_token = tt; is_short = tt; encoded = refl })

  pub takes_other : (code : ℕ) → IsOtherCode code → length gathered.bytes ≤ gathered.limit
      → Takes (held AfterIac gathered content) code (held (Done (IsOther code)) gathered content)
  takes_other code other fits = completes _ _ _ _ _ (Other code) (Some _) refl other tt refl (tt, tt) fits

  pub takes_option : (verb : Verb) (code : ℕ) → length gathered.bytes ≤ gathered.limit
      → Takes (held (AfterVerb verb) gathered content) code (held (Done (IsOpt verb code)) gathered content)
  takes_option verb code fits = completes _ _ _ _ _ (Opt verb code) (Some _) refl tt tt refl (tt, tt) fits

  part_of_sub : (bytes : List ℕ) → length bytes ≤ 256 → IsPartial (opened bytes)
  part_of_sub bytes fits = record { token = Sub bytes; missing = 255 ∷ 240 ∷ []; proper = λ e. cc; is_token = tt; is_short = fits; encoded = refl }

  -- one more byte of content
  opened_more : (bytes : List ℕ) (byte : ℕ) → opened (bytes ++ byte ∷ []) ≡ opened bytes ++ escaped byte
  opened_more bytes byte =
      ap (λ z. 255 ∷ 250 ∷ z) (flat_map-append escaped bytes (byte ∷ []) ∙ ap (λ z. flat_map escaped bytes ++ z) (append-nil (escaped byte)))

  pub meets_iac_in_sub : length gathered.bytes ≤ gathered.limit → length content ≤ 256
      → Takes (held InSub gathered content) 255 (held AfterIacInSub gathered content)
  meets_iac_in_sub fits inside = goes_on _ _ _ _ _ _ refl fits
      (record { token = Sub content; missing = 240 ∷ []; proper = λ e. cc; is_token = tt; is_short = inside; encoded = sym (append_assoc (opened content) (255 ∷ []) (240 ∷ [])) })

  pub takes_content : (byte : ℕ) → byte ≢ 255 → length gathered.bytes ≤ gathered.limit → length content < 256
      → Takes (held InSub gathered content) byte (held InSub gathered (content ++ byte ∷ []))
  takes_content byte plain fits inside = goes_on _ _ _ _ _ _
      (ap (λ z. opened content ++ z) (sym (escaped-plain byte plain)) ∙ sym (opened_more content byte)) fits
      (part_of_sub (content ++ byte ∷ []) (omega (arith, length_push content byte)))

  pub refuses_content : (byte : ℕ) → byte ≢ 255 → length gathered.bytes ≤ gathered.limit → length content ≡ 256
      → Refuses (held InSub gathered content) byte TooLong
  refuses_content byte plain fits full = (
    refl,
    goes_wrong _ _ _ _ _ _
        (ap (λ z. opened content ++ z) (sym (escaped-plain byte plain)) ∙ sym (opened_more content byte))
        (inr (content ++ byte ∷ [], refl, omega (arith, length_push content byte), fits)),
  )

  pub takes_doubled_content : length gathered.bytes ≤ gathered.limit → length content < 256
      → Takes (held AfterIacInSub gathered content) 255 (held InSub gathered (content ++ 255 ∷ []))
  takes_doubled_content fits inside = goes_on _ _ _ _ _ _
      (append_assoc (opened content) (255 ∷ []) (255 ∷ []) ∙ sym (opened_more content 255)) fits
      (part_of_sub (content ++ 255 ∷ []) (omega (arith, length_push content 255)))

  pub refuses_doubled_content : length gathered.bytes ≤ gathered.limit → length content ≡ 256
      → Refuses (held AfterIacInSub gathered content) 255 TooLong
  refuses_doubled_content fits full = (
    refl,
    goes_wrong _ _ _ _ _ _
        (append_assoc (opened content) (255 ∷ []) (255 ∷ []) ∙ sym (opened_more content 255))
        (inr (content ++ 255 ∷ [], refl, omega (arith, length_push content 255), fits)),
  )

  pub ends_sub : length gathered.bytes ≤ gathered.limit → length content ≤ 256
      → Takes (held AfterIacInSub gathered content) 240 (held (Done IsSub) gathered content)
  ends_sub fits inside = completes _ _ _ _ _ (Sub content) (Some _) (append_assoc (opened content) (255 ∷ []) (240 ∷ [])) tt inside refl (tt, tt) fits

  pub refuses_command : (code : ℕ) → code ≢ 255 → code ≢ 240 → length gathered.bytes ≤ gathered.limit → length content ≤ 256
      → Refuses (held AfterIacInSub gathered content) code BadSub
  refuses_command code plain going fits inside = (
    refl,
    goes_wrong _ _ _ _ _ _ (append_assoc (opened content) (255 ∷ []) (code ∷ []))
        (content, code, refl, plain, going, inside, fits),
  )
