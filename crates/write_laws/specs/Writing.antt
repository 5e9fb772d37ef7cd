-- A loop that writes what a run reads, one thing after another: what is asked of it, and while it goes what it has still to read and to store.
-- `emits` is all that a list of things writes, from a state on. The run goes on while `more` says so: `always` in a packet.
use Rattle.std.specs.Prelude.{◌≡◌, ℕ, ◌+◌, ◌≤◌, Bool, List, length, drop}
use Rattle.std.proofs.lemmas.List.Edits.{sets}
use Rattle.format.specs.Answer.{Ans, ok, Got}
use Rattle.format.specs.Run.{Step, skip}
use Rattle.tally.specs.Runs.{Ran}

-- what is asked: what it goes over has so few bytes and was accepted, and what it writes has room
pub record Asked {X : Type 0} (runs : Ans (Got (List X))) (writes : List ℕ) (size most room : ℕ) : Type 0 where
  pub few : size ≤ most
  pub ran : Ran runs
  pub fits : length writes ≤ room

-- p bytes of s were read, and k bytes of `whole` stored into out₀
pub record Writing {X S : Type 0} (more : List ℕ → Bool) (emits : S → List X → List ℕ) (key : X → ℕ) (step : Step X) (whole s out₀ out : List ℕ) (σ : S) (p k : ℕ) : Type 0 where
  pub seen : List ℕ
  pub things : Got (List X)
  pub reads : skip more key step seen 0 (drop p s) ≡ ok things
  pub to : p ≤ length s
  pub same : length out ≡ length out₀
  pub sum : k + length (emits σ things.val) ≡ length whole
  pub rest : sets out₀ 0 whole ≡ sets out k (emits σ things.val)
