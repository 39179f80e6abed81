-- The turn of serving of the example.
use Rattle.std.proofs.Common.{◌≡◌, ℕ, true, Option, None, Some, is_some, List, [], ◌∷◌, ◌++◌, take, refl, ap, sym}
use Rattle.telnet_wire.specs.Items.{sent_bytes}
use Rattle.tn3270e_msg.specs.declared.cause.Stop.TheVariants.{Going as FeedGoing}
use Rattle.host_core.specs.Acts.{Sent}
use Rattle.host_core.specs.Application.{Application, application_of}
use Rattle.host_core.specs.Does.{Does, acted_by, sent_on, with_asked}
use Rattle.host_core.specs.Feeds.{with_connection_and_pool}
use Rattle.host_core.specs.Says.{item_sent}
use Rattle.host_core.specs.Serves.{Responds, SendsOut, Serves, sent_from}
use Rattle.host_core.specs.State.{Connection, Host, connection_at, state_at, with_connection}
use Rattle.host_core.specs.declared.acted.Acted.TheVariants.{Sent as IsSent}
use Rattle.host_core.specs.declared.links.LinkRead.TheVariants.{Got}
use Rattle.host_core.specs.declared.links.LinkWrite.TheVariants.{Took}
use Rattle.world3270.specs.examples.ExampleBytes.{agreed_host, one_panel, refusal}
use Rattle.world3270.specs.examples.ExampleServing.{ATurnIsThere}
use Rattle.world3270.proofs.RunsOfOptions.{feeds_offer, refused}

abbrev app : Application
app = application_of one_panel

-- once the offer is taken
abbrev fed : Host
fed = with_connection_and_pool 0 refused agreed_host

abbrev acted_on : Option Sent → Connection → Connection
acted_on None connection = connection
acted_on (Some sending) connection = sent_on sending connection

-- it shows its panel
abbrev shows : Option Sent
shows = acted_by app (state_at 0 fed)

abbrev shown : Host
shown = with_connection 0 (acted_on shows (connection_at 0 fed)) fed

abbrev done : Host
done = with_asked 0 shown

does_so : (what : Option Sent) (connection : Connection) → is_some what ≡ true → Does what connection IsSent (acted_on what connection)
does_so (Some sending) connection some = refl
does_so None connection some = absurd (cc)

-- what it sends begins with the refusal
begins_so : (what : Option Sent) (connection : Connection) → connection.out ≡ refusal → (more : List ℕ) × ((acted_on what connection).out ≡ refusal ++ more)
begins_so None connection is = ([], is)
begins_so (Some sending) connection is =
    let more : List ℕ = sent_bytes (item_sent sending.message ∷ []) in
    (more, ap (λ (out : List ℕ). out ++ more) is)

something : (out more : List ℕ) → out ≡ refusal ++ more → out ≡ [] → ⊥
something out more is none = cc

first_three : (out more : List ℕ) → out ≡ refusal ++ more → refusal ≡ take 3 out
first_three out more is = ap (λ (bytes : List ℕ). take 3 bytes) (sym is)

pub a_turn : ATurnIsThere
a_turn = record {
  queues = record { reads = λ old new room bytes got gives. gives; writes = λ old new bytes wrote takes. takes };
  host = sent_from 0 3 done;
  serves =
      let sends = begins_so shows (connection_at 0 fed) refl in
      Serves.served (Got 3) (255 ∷ 251 ∷ 31 ∷ []) done _ (refl, refl) tt
      (Responds.acts (record { taken = 3; stop = FeedGoing }) fed shown IsSent (record { feeds = feeds_offer; others = refl; holders = λ other lu differs. (λ holds. holds, λ holds. holds) }) (λ e. cc)
      (record { does = does_so shows (connection_at 0 fed) refl; others = refl }) (λ e. cc) refl refl)
      (SendsOut.handed (Took 3) (something (connection_at 0 done).out sends.0 sends.1) (first_three (connection_at 0 done).out sends.0 sends.1, refl) refl) (λ e. cc);
}
