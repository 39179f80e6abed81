-- A panel text and a script have no two pages.
use Rattle.std.proofs.Common.{◌≡◌, ◌∙◌, ◌+◌, ℕ, zero, suc, Bool, true, false, List, [], ◌∷◌, ◌++◌, Option, None, Some, chars, length, map, refl, sym, ap, subst}
use Rattle.lu_pool.specs.Pool.{entry}
use Rattle.lu_pool.specs.Reading.{IsReadFrom as IsPoolReadFrom}
use Rattle.lu_pool.specs.declared.entry.Entry.{Entry}
use Rattle.panels.specs.Defines.{DefinesOnce}
use Rattle.panels.specs.Panel.{Panels}
use Rattle.world3270.specs.model.ByteRuns.{refused_at}
use Rattle.world3270.specs.model.ByteSteps.{Steps}
use Rattle.host_core.specs.declared.terminals.Terminals.{Terminals}
use Rattle.world3270.specs.model.ByteWorld.{ByteWorld, new_byte_world}
use Rattle.world3270.specs.statement.OneOutcome.{StepsAreOne}
use Rattle.world3270.specs.declared.event.Event.{Event}
use Rattle.world3270.specs.declared.event.Stepped.{Stepped}
use Rattle.scripts.specs.Happenings.{AreRounds, AreTyped, Happening, OthersIf, TakePlace, all_skipped, events_of, is_refused, most_rounds}
use Rattle.jobs.specs.HexLines.{lines_of}
use Rattle.scripts.specs.Plays.{AreHappeningsOf, Plays, PlaysLine, PlaysNext, playable_command, said_of, terminal_models}
use Rattle.scripts.specs.ScriptLines.{typed_text}
use Rattle.applications.specs.PanelHosts.{lus_of}
use Rattle.panels.specs.PanelText.{panel_text}
use Rattle.scripts.specs.Scripts.{IsWorldOf, ScriptsHaveOnePage, script_text}
use Rattle.scripts.specs.declared.script_line.ScriptCommand.{ScriptCommand}
use Rattle.scripts.specs.declared.script_line.ScriptCommand.TheVariants as command

-- ---- what takes place

abbrev happening_of : Event → Stepped → Happening
happening_of event answer = record { event = event; answer = answer }

-- the same took place, and the same world is behind it
abbrev Alike : List Happening → List Happening → ByteWorld → ByteWorld → Type 0
Alike happenings rival new other = (happenings ≡ rival) × (new ≡ other)

none_took_place : (happenings : List Happening) (old new : ByteWorld) → happenings ≡ [] → TakePlace happenings old new → new ≡ old
none_took_place happenings old new none takes = subst (λ (list : List Happening). TakePlace list old new) none takes

one_nothing : (happenings rival : List Happening) (old new other : ByteWorld) → happenings ≡ [] → rival ≡ [] → TakePlace happenings old new → TakePlace rival old other
    → Alike happenings rival new other
one_nothing happenings rival old new other is also takes other_takes =
    (is ∙ sym also, none_took_place happenings old new is takes ∙ sym (none_took_place rival old other also other_takes))

-- what took place, in two pieces
in_pieces : (front back : List Happening) (old new : ByteWorld) → TakePlace (front ++ back) old new → (mid : ByteWorld) × TakePlace front old mid × TakePlace back mid new
in_pieces [] back old new takes = (old, refl, takes)
in_pieces (first ∷ front) back old new takes =
    let rest = in_pieces front back takes.0 new takes.3 in
    (rest.0, (takes.0, takes.1, takes.2, rest.1), rest.2)

-- where it ends for both, or the others are alike
others_alike : (over : Bool) (others rival : List Happening) (Rightly Also : Type 0) (mid new other : ByteWorld) → OthersIf over others Rightly → OthersIf over rival Also
    → TakePlace others mid new → TakePlace rival mid other → (Rightly → Also → Alike others rival new other) → Alike others rival new other
others_alike true others rival Rightly Also mid new other is also takes other_takes go_on = one_nothing others rival mid new other is also takes other_takes
others_alike false others rival Rightly Also mid new other is also takes other_takes go_on = go_on is also

no_event : (event : Event) (events : List Event) → [] ≡ event ∷ events → ⊥
no_event event events is = cc

same_first : (event rival : Event) (events rivals : List Event) → event ∷ events ≡ rival ∷ rivals → (event ≡ rival) × (events ≡ rivals)
same_first event rival events rivals is = (cc, cc)

module _ (steps_are_one : StepsAreOne) where
  -- the first of two, where they are the same event
  one_first : (first rival : Happening) (old mid other : ByteWorld) → first.event ≡ rival.event → Steps first.event old first.answer mid → refused_at first.answer ≡ None
      → Steps rival.event old rival.answer other → refused_at rival.answer ≡ None → (first.answer ≡ rival.answer) × (mid ≡ other)
  one_first first rival old mid other same steps whole other_steps other_whole =
      steps_are_one first.event old mid other first.answer rival.answer steps whole
      (subst (λ (event : Event). Steps event old rival.answer other) (sym same) other_steps) other_whole

  -- the first is the same, and so are the others
  one_more : (first rival : Happening) (others rivals : List Happening) (new other : ByteWorld) → first.event ≡ rival.event → first.answer ≡ rival.answer
      → Alike others rivals new other → Alike (first ∷ others) (rival ∷ rivals) new other
  one_more first rival others rivals new other event answer alike = (
    ap (λ (e : Event). happening_of e first.answer ∷ others) event ∙ ap (λ (a : Stepped). happening_of rival.event a ∷ others) answer
        ∙ ap (λ (list : List Happening). rival ∷ list) alike.0,
    alike.1,
  )

  one_run : (happenings rival : List Happening) (old new other : ByteWorld) → events_of happenings ≡ events_of rival → TakePlace happenings old new → TakePlace rival old other
      → Alike happenings rival new other
  one_run [] [] old new other same takes other_takes = (refl, takes ∙ sym other_takes)
  one_run [] (rival ∷ rivals) old new other same takes other_takes = absurd (no_event rival.event (events_of rivals) same)
  one_run (first ∷ others) [] old new other same takes other_takes = absurd (no_event first.event (events_of others) (sym same))
  one_run (first ∷ others) (rival ∷ rivals) old new other same takes other_takes =
      let events = same_first first.event rival.event (events_of others) (events_of rivals) same in
      let step = one_first first rival old takes.0 other_takes.0 events.0 takes.1 takes.2 other_takes.1 other_takes.2 in
      one_more first rival others rivals new other events.0 step.0
      (one_run others rivals takes.0 new other events.1 takes.3 (subst (λ (mid : ByteWorld). TakePlace rivals mid other) (sym step.1) other_takes.3))

  one_typing : (terminal : ℕ) (text : List ℕ) (typed rival : List Happening) (old new other : ByteWorld) → AreTyped terminal text typed → AreTyped terminal text rival
      → TakePlace typed old new → TakePlace rival old other → Alike typed rival new other
  one_typing terminal [] typed rival old new other is also takes other_takes = one_nothing typed rival old new other is also takes other_takes
  one_typing terminal (char ∷ text) [] rival old new other is also takes other_takes = absurd is
  one_typing terminal (char ∷ text) (first ∷ others) [] old new other is also takes other_takes = absurd also
  one_typing terminal (char ∷ text) (first ∷ others) (rival ∷ rivals) old new other is also takes other_takes =
      let event : first.event ≡ rival.event = is.0 ∙ sym also.0 in
      let step = one_first first rival old takes.0 other_takes.0 event takes.1 takes.2 other_takes.1 other_takes.2 in
      let rightly = subst (λ (answer : Stepped). OthersIf (is_refused answer) rivals (AreTyped terminal text rivals)) (sym step.0) also.1 in
      let rest = subst (λ (mid : ByteWorld). TakePlace rivals mid other) (sym step.1) other_takes.3 in
      one_more first rival others rivals new other event step.0
      (others_alike (is_refused first.answer) others rivals (AreTyped terminal text others) (AreTyped terminal text rivals) takes.0 new other is.1 rightly takes.3 rest
      (λ here there. one_typing terminal text others rivals takes.0 new other here there takes.3 rest))

  one_idling : (left : ℕ) (happenings rival : List Happening) (old new other : ByteWorld) → AreRounds left happenings → AreRounds left rival
      → TakePlace happenings old new → TakePlace rival old other → Alike happenings rival new other
  unfolding AreRounds
  one_idling zero happenings rival old new other is also takes other_takes = one_nothing happenings rival old new other is also takes other_takes
  one_idling (suc left) happenings rival old new other is also takes other_takes =
      let parts = in_pieces is.0 is.1 old new (subst (λ (list : List Happening). TakePlace list old new) is.2 takes) in
      let rivals = in_pieces also.0 also.1 old other (subst (λ (list : List Happening). TakePlace list old other) also.2 other_takes) in
      let round = one_run is.0 also.0 old parts.0 rivals.0 (is.3 ∙ sym also.3) parts.1 rivals.1 in
      let rightly = subst (λ (list : List Happening). OthersIf (all_skipped list) also.1 (AreRounds left also.1)) (sym round.0) also.4 in
      let rest = subst (λ (mid : ByteWorld). TakePlace also.1 mid other) (sym round.1) rivals.2 in
      let others = others_alike (all_skipped is.0) is.1 also.1 (AreRounds left is.1) (AreRounds left also.1) parts.0 new other is.4 rightly parts.2 rest
      (λ here there. one_idling left is.1 also.1 parts.0 new other here there parts.2 rest) in (
        is.2 ∙ ap (λ (list : List Happening). list ++ is.1) round.0 ∙ ap (λ (list : List Happening). also.0 ++ list) others.0 ∙ sym also.2,
        others.1,
      )

  -- ---- lines

  one_command : (command : ScriptCommand) (line : List ℕ) (happenings rival : List Happening) (old new other : ByteWorld) → AreHappeningsOf command line old happenings → AreHappeningsOf command line old rival
      → TakePlace happenings old new → TakePlace rival old other → Alike happenings rival new other
  one_command command.Nothing line happenings rival old new other is also takes other_takes = one_nothing happenings rival old new other is also takes other_takes
  one_command (command.Happen event) line happenings rival old new other is also takes other_takes =
      one_run happenings rival old new other (is ∙ sym also) takes other_takes
  one_command (command.TypeText terminal) line happenings rival old new other is also takes other_takes =
      one_typing terminal (chars (typed_text line)) happenings rival old new other is also takes other_takes
  one_command (command.Answer conn) line happenings rival old new other is also takes other_takes =
      one_run happenings rival old new other (is ∙ sym also) takes other_takes
  one_command command.Settle line happenings rival old new other is also takes other_takes = one_idling most_rounds happenings rival old new other is also takes other_takes
  one_command (command.Show terminal) line happenings rival old new other is also takes other_takes = one_nothing happenings rival old new other is also takes other_takes
  one_command (command.Status terminal) line happenings rival old new other is also takes other_takes = one_nothing happenings rival old new other is also takes other_takes
  one_command (command.Question conn) line happenings rival old new other is also takes other_takes = one_nothing happenings rival old new other is also takes other_takes

  one_line : (command : ScriptCommand) (line : List ℕ) (old new other : ByteWorld) (happenings rival : List Happening) (said told : List ℕ)
      → PlaysLine command line old happenings said new → PlaysLine command line old rival told other → (said ≡ told) × (new ≡ other)
  one_line command line old new other happenings rival said told is also =
      let alike = one_command command line happenings rival old new other is.are_happenings also.are_happenings is.take_place also.take_place in (
        is.said_is ∙ ap (λ (list : List Happening). said_of command list new) alike.0 ∙ ap (λ (world : ByteWorld). said_of command rival world) alike.1 ∙ sym also.said_is,
        alike.1,
      )

  one_next : (command : Option ScriptCommand) (number : ℕ) (line : List ℕ) (lines : List (List ℕ)) (old new other : ByteWorld) (happenings rival : List Happening) (printed text : List ℕ)
      (m n : Option ℕ)
      → ((mid : ByteWorld) (back rest : List Happening) (behind after : List ℕ) → Plays (number + 1) lines mid back behind m new → Plays (number + 1) lines mid rest after n other
      → (behind ≡ after) × (m ≡ n))
      → PlaysNext command number line (λ mid back behind. Plays (number + 1) lines mid back behind m new) old happenings printed m new
      → PlaysNext command number line (λ mid back behind. Plays (number + 1) lines mid back behind n other) old rival text n other → (printed ≡ text) × (m ≡ n)
  one_next None number line lines old new other happenings rival printed text m n one_rest is also = (is.1 ∙ sym also.1, is.2 ∙ sym also.2)
  one_next (Some command) number line lines old new other happenings rival printed text m n one_rest is also =
      let same = one_line command line old is.0 also.0 is.1 also.1 is.3 also.3 is.5 also.5 in
      let rest = one_rest is.0 is.2 also.2 is.4 also.4 is.6 (subst (λ (mid : ByteWorld). Plays (number + 1) lines mid also.2 also.4 n other) (sym same.1) also.6) in
      (is.8 ∙ ap (λ (front : List ℕ). front ++ is.4) same.0 ∙ ap (λ (back : List ℕ). also.3 ++ back) rest.0 ∙ sym also.8, rest.1)

  one_playing : (lines : List (List ℕ)) (number : ℕ) (old new other : ByteWorld) (happenings rival : List Happening) (printed text : List ℕ) (m n : Option ℕ)
      → Plays number lines old happenings printed m new → Plays number lines old rival text n other → (printed ≡ text) × (m ≡ n)
  one_playing [] number old new other happenings rival printed text m n is also = (is.1 ∙ sym also.1, is.2 ∙ sym also.2)
  one_playing (line ∷ lines) number old new other happenings rival printed text m n is also =
      one_next (playable_command old.host.panels (length old.slots) line) number line lines old new other happenings rival printed text m n
      (λ mid back rest behind after here there. one_playing lines (number + 1) mid new other back rest behind after m n here there) is also

-- ---- the world that a script begins with

no_lu : (lu : Option (List ℕ)) (lus : List (Option (List ℕ))) → [] ≡ lu ∷ lus → ⊥
no_lu lu lus is = cc

same_lu : (lu other : List ℕ) (lus others : List (Option (List ℕ))) → Some lu ∷ lus ≡ Some other ∷ others → (lu ≡ other) × (lus ≡ others)
same_lu lu other lus others is = (cc, cc)

same_lus : (pool other : List Entry) → map (λ at. Some at.lu) pool ≡ map (λ at. Some at.lu) other → map (λ at. entry at.lu None) pool ≡ map (λ at. entry at.lu None) other
same_lus [] [] same = refl
same_lus [] (rival ∷ rivals) same = absurd (no_lu (Some rival.lu) (map (λ at. Some at.lu) rivals) same)
same_lus (first ∷ others) [] same = absurd (no_lu (Some first.lu) (map (λ at. Some at.lu) others) (sym same))
same_lus (first ∷ others) (rival ∷ rivals) same =
    let parts = same_lu first.lu rival.lu (map (λ at. Some at.lu) others) (map (λ at. Some at.lu) rivals) same in
    ap (λ (lu : List ℕ). entry lu None ∷ map (λ at. entry at.lu None) others) parts.0
    ∙ ap (λ (list : List Entry). entry rival.lu None ∷ list) (same_lus others rivals parts.1)

one_pool : (read : List (Option (List ℕ))) (pool other : List Entry) → IsPoolReadFrom read pool → IsPoolReadFrom read other → pool ≡ other
one_pool read pool other is also = is.free ∙ same_lus pool other (sym is.lus ∙ also.lus) ∙ sym also.free

one_world : DefinesOnce → (serves : Terminals) (text : List ℕ) (world other : ByteWorld) → IsWorldOf serves text world → IsWorldOf serves text other → world ≡ other
one_world defines_once serves text world other is also =
    let panels : is.panels ≡ also.panels = defines_once text is.panels also.panels is.panels_read also.panels_read in
    let pool : is.pool ≡ also.pool =
    one_pool (lus_of is.panels) is.pool also.pool is.pool_read (subst (λ (set : Panels). IsPoolReadFrom (lus_of set) also.pool) (sym panels) also.pool_read) in
    is.world_is ∙ ap (λ (set : Panels). new_byte_world serves set is.pool terminal_models) panels
    ∙ ap (λ (list : List Entry). new_byte_world serves also.panels list terminal_models) pool ∙ sym also.world_is

pub one_script_page : DefinesOnce → StepsAreOne → ScriptsHaveOnePage
one_script_page defines_once steps_are_one serves input page other stopped ended is also =
    let old : is.old ≡ also.old = one_world defines_once serves (panel_text input) is.old also.old is.begins also.begins in
    one_playing steps_are_one (lines_of (script_text input)) 1 is.old is.new also.new is.is_played.happenings also.is_played.happenings page other stopped ended is.is_played.plays
    (subst (λ (world : ByteWorld). Plays 1 (lines_of (script_text input)) world also.is_played.happenings other ended also.new) (sym old) also.is_played.plays)
