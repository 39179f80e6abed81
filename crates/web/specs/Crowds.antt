-- How many clients a server of pages has (our profile).
use Rattle.std.specs.Prelude.{ℕ, ◌-◌, ◌≤◌, Bool, not, nat_le, List, length, Option, position}
use Rattle.std.specs.Option.{option_or}
use Rattle.web.specs.Networks.{crowded_place}

-- how many clients have no session yet, how many sessions there are, how many clients depart; and the most sessions
pub record Crowd : Type 0 where
  pub visitors : ℕ
  pub sessions : ℕ
  pub departing : ℕ
  pub most_sessions : ℕ

abbrev pub crowd_of : {V S D : Type 0} → List V → List S → List D → ℕ → Crowd
crowd_of visitors seats departing most = record {
  visitors = length visitors;
  sessions = length seats;
  departing = length departing;
  most_sessions = most;
}

-- for how long a client that sends something is sure of its place, in milliseconds
abbrev pub sure_time : ℕ
sure_time = 1000

-- Which of the clients without a session, the oldest first, makes room for a new one of a network: the first that has
-- sent nothing; or else the first of another network that has more than its share; or else the first that isn't sure of
-- its place any more.
abbrev pub leaving_place : {V : Type 0} → (has_sent : V → Bool) → (of : V → ℕ) → (began : V → ℕ) → (network now : ℕ)
    → List V → Option ℕ
leaving_place has_sent of began network now visitors =
    option_or (position (λ it. not (has_sent it)) visitors) (option_or (crowded_place of network visitors)
    (position (λ it. nat_le sure_time (now - began it)) visitors))

-- holds for every server
pub record IsBounded (crowd : Crowd) : Type 0 where
  pub few_visitors : crowd.visitors ≤ 16
  pub few_sessions : crowd.sessions ≤ crowd.most_sessions
  pub most_at_once : crowd.most_sessions ≤ 64
  pub few_departing : crowd.departing ≤ 80
