-- The run of the example in which a client offers an option, the host refuses it, and the terminal takes the refusal.
use Rattle.std.proofs.Common.{◌≡◌, inl, lit≤, ℕ, None, List, [], ◌∷◌, refl, ap, sym}
use Rattle.telnet_wire.specs.Items.{Opt as OptItem}
use Rattle.telnet_wire.specs.Laws.{ItemsAreRead}
use Rattle.telnet_wire.specs.Reading.{Delivers, Rest, nothing}
use Rattle.telnet_wire.specs.Token.{End, Opt, code_of}
use Rattle.telnet_wire.specs.declared.wire.Verb.{Verb}
use Rattle.telnet_wire.specs.declared.wire.Verb.TheVariants.{Dont, Will}
use Rattle.tn3270e_msg.specs.Header.{record_limit}
use Rattle.tn3270e_msg.specs.Talk.{Comes}
use Rattle.tn3270e_msg.specs.declared.cause.Stop.TheVariants.{Going}
use Rattle.tn3270e_msg.specs.declared.reply.Reply.TheVariants.{Nothing}
use Rattle.term_core.specs.Bytes.{TakesByte as TermTakesByte}
use Rattle.term_core.specs.State.{Attached}
use Rattle.host_core.specs.Application.{application_of}
use Rattle.host_core.specs.Bytes.{ConnectionAndPool, TakesByte, TakesBytes}
use Rattle.host_core.specs.Feeds.{Feeds, connection_and_pool_at}
use Rattle.host_core.specs.Reports.{no_reports}
use Rattle.host_core.specs.State.{Service}
use Rattle.lu_pool.specs.Asking.{answer_to}
use Rattle.host_core.specs.Takes.{talked}
use Rattle.world3270.specs.examples.ExampleBytes.{agreed_bytes, agreed_host, agreed_session, behind_offer, bound_talk, bound_terminal, client_said, client_says, offer_refused, one_panel, refusal, refusal_begun, refusal_ignored, refusal_sent}
use Rattle.world3270.specs.examples.ExampleEnds.{l1_held}
use Rattle.world3270.specs.model.TrackedTerminals.{TrackedTerminal}
use Rattle.world3270.specs.refinement.Ignored.{without_ignored}
use Rattle.world3270.specs.refinement.Readings.{IsReadAs}
use Rattle.world3270.specs.statement.EveryTerminalBytes.{LeadTo, Moves, Takes}
use Rattle.world3270.proofs.Represents.{written_stand}

-- an option's bytes so far
abbrev held : List ℕ → Rest
held bytes = record { unfinished = []; partial = bytes }

abbrev at_rest : Rest → ConnectionAndPool
at_rest rest = record { pool = l1_held; connection = record { service = Service.Open rest agreed_session; out = []; reports = no_reports } }

abbrev pub refused : ConnectionAndPool
refused = record { pool = l1_held; connection = record { service = Service.Open nothing agreed_session; out = refusal; reports = no_reports } }

first_byte : Delivers record_limit nothing (255 ∷ []) [] (held (255 ∷ []))
first_byte = record {
  tokens = [];
  reads = record { encoded = refl; unfinished = refl; each = tt; short = tt; records = tt };
  is_rest = record {
    unfinished = lit≤ tt;
    partial = record { token = Opt Will 31; missing = 251 ∷ 31 ∷ []; proper = λ none. absurd (cc); is_token = tt; is_short = tt; encoded = refl };
  };
  said = refl;
}

-- the byte of a verb
verb_byte : (by : Verb) (code : ℕ) → code_of by ≡ code → Delivers record_limit (held (255 ∷ [])) (code ∷ []) [] (held (255 ∷ code ∷ []))
verb_byte by code is = record {
  tokens = [];
  reads = record { encoded = refl; unfinished = refl; each = tt; short = tt; records = tt };
  is_rest = record {
    unfinished = lit≤ tt;
    partial = record { token = Opt by 31; missing = 31 ∷ []; proper = λ none. absurd (cc); is_token = tt; is_short = tt; encoded = ap (λ (c : ℕ). 255 ∷ c ∷ 31 ∷ []) is };
  };
  said = refl;
}

-- and that of the option
option_byte : (by : Verb) (code : ℕ) → code_of by ≡ code → Delivers record_limit (held (255 ∷ code ∷ [])) (31 ∷ []) (OptItem by 31 ∷ []) nothing
option_byte by code is = record {
  tokens = Opt by 31 ∷ [];
  reads = record { encoded = ap (λ (c : ℕ). 255 ∷ c ∷ 31 ∷ []) (sym is); unfinished = refl; each = (tt, tt); short = (tt, tt); records = (tt, tt) };
  is_rest = record {
    unfinished = lit≤ tt;
    partial = record { token = End; missing = 255 ∷ 239 ∷ []; proper = λ none. absurd (cc); is_token = tt; is_short = tt; encoded = refl };
  };
  said = refl;
}

-- ---- the host takes the offer

takes_offer : TakesBytes 0 (connection_and_pool_at 0 agreed_host) (255 ∷ 251 ∷ 31 ∷ []) refused
takes_offer = (
  at_rest (held (255 ∷ [])),
  TakesByte.goes_on nothing (held (255 ∷ [])) agreed_session refl first_byte refl,
  (
    at_rest (held (255 ∷ 251 ∷ [])),
    TakesByte.goes_on (held (255 ∷ [])) (held (255 ∷ 251 ∷ [])) agreed_session refl (verb_byte Will 251 refl) refl,
    (
      refused,
      TakesByte.completes (held (255 ∷ 251 ∷ [])) nothing agreed_session (OptItem Will 31) (talked (answer_to l1_held) agreed_session agreed_session.talk (Comes.OtherWill 31)) refl (option_byte Will 251 refl)
          (Comes.OtherWill 31, refl, refl) refl,
      refl,
    ),
  ),
)

pub feeds_offer : Feeds 0 (connection_and_pool_at 0 agreed_host) (255 ∷ 251 ∷ 31 ∷ []) (record { taken = 3; stop = Going }) refused
feeds_offer = record { few = lit≤ tt; takes = takes_offer; stops = inl (refl, tt) }

-- ---- the terminal takes the refusal

terminal_at : List ℕ → TrackedTerminal
terminal_at taken = record bound_terminal { terminal = record bound_terminal.terminal { link = Attached (held taken) bound_talk } }

takes_first : Takes refusal_sent (refusal_begun (255 ∷ []) (254 ∷ 31 ∷ []))
unfolding terminal_at
takes_first = record {
  byte = 255;
  behind = 254 ∷ 31 ∷ [];
  next = refl;
  ours = terminal_at (255 ∷ []);
  takes = record { takes = TermTakesByte.goes_on nothing (held (255 ∷ [])) bound_talk refl first_byte refl; history = refl };
  bytes = [];
  alike = λ messages read. read;
  leaves = refl;
}

takes_second : Takes (refusal_begun (255 ∷ []) (254 ∷ 31 ∷ [])) (refusal_begun (255 ∷ 254 ∷ []) (31 ∷ []))
unfolding terminal_at
takes_second = record {
  byte = 254;
  behind = 31 ∷ [];
  next = refl;
  ours = terminal_at (255 ∷ 254 ∷ []);
  takes = record { takes = TermTakesByte.goes_on (held (255 ∷ [])) (held (255 ∷ 254 ∷ [])) bound_talk refl (verb_byte Dont 254 refl) refl; history = refl };
  bytes = [];
  alike = λ messages read. read;
  leaves = refl;
}

takes_third : Takes (refusal_begun (255 ∷ 254 ∷ []) (31 ∷ [])) refusal_ignored
takes_third = record {
  byte = 31;
  behind = [];
  next = refl;
  ours = bound_terminal;
  takes = record {
    takes = TermTakesByte.completes (held (255 ∷ 254 ∷ [])) nothing bound_talk bound_talk (OptItem Dont 31) [] None bound_terminal.terminal.station refl (option_byte Dont 254 refl)
        (record { reply = Nothing; takes = record { comes = Comes.NoTalk; hears = refl; gives = refl; model = refl; wanted = refl }; sends = refl; ends = refl }, refl) refl;
    history = refl;
  };
  bytes = [];
  alike = λ messages read. read;
  leaves = refl;
}

-- ---- the run

pub offers_are_refused : ItemsAreRead
    → LeadTo (application_of one_panel) 0
    (client_said ∷ offer_refused ∷ offer_refused ∷ refusal_sent ∷ refusal_begun (255 ∷ []) (254 ∷ 31 ∷ []) ∷ refusal_begun (255 ∷ 254 ∷ []) (31 ∷ []) ∷ refusal_ignored ∷ []) agreed_bytes refusal_ignored
offers_are_refused written = (
  Moves.sends_ignored client_said.up (written_stand without_ignored IsReadAs written client_says [] (tt, (lit≤ tt, (lit≤ tt, tt))) tt) refl,
  (
    Moves.feeds (255 ∷ 251 ∷ 31 ∷ []) behind_offer (record { taken = 3; stop = Going }) refused refl feeds_offer refl,
    (
      Moves.reports no_reports refl,
      (Moves.hands_over 3 refl, (Moves.takes takes_first, (Moves.takes takes_second, (Moves.takes takes_third, refl)))),
    ),
  ),
)
