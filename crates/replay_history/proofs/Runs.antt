-- The replay for the code: it holds of every run that the contracts of `begin`, `feed` and `finish` allow, however the file is cut into pieces (C9).
-- The contracts are the toolchain's own reading of the source (`Post`); nothing here looks at the code behind them.
use Prim.Native.Nat.{ℕ, ◌+◌}
use borrow.Fn.Kinds.{Dens, res_t, ended_of}
use contract.Lifetimes.{Lfts}
use denote.Triple.Clauses.{AtExit}
use mathlib.Core.Path.{◌≡◌, sym, ap, ◌∙◌}
use mathlib.Core.List.{List, [], ◌++◌}
use lib.ListN.{length}
use Rattle.rules.specs.Events.{History}
use Rattle.numbers.specs.Sizes.{ports}
use Rattle.place.specs.State.{State, state}
use Rattle.fitness.specs.View.{view}
use Rattle.history.specs.Demand.{Demand3}
use Rattle.history.specs.Calls.{Called}
use Rattle.history.proofs.CallsLaws.{reached, demand3-table}
use Rattle.history.proofs.Runs.{Ran, ran-called}
use Rattle.refusal.specs.Refusal.{refusal_of}
use Rattle.replay.specs.Calls.{handed_of, script_for, handed_in, End, replayed}
use Rattle.replay.specs.Place.{room_octets, beginning, end_at}
use Rattle.replay.specs.Sound.{sound}
use Rattle.replay.specs.Feeding.{Moment, moment, finished}
use Rattle.replay.specs.Promises.{Stands, ending, Listed}
use Rattle.replay.proofs.TableLaws.{sized-listed}
use Rattle.replay.proofs.EndLaws.{stands-none, stands-sound, stands-end}
use Rattle.replay.proofs.begin.Kinds as begin-kinds
use Rattle.replay.proofs.begin.Reads as begin
use Rattle.replay.proofs.feed.Kinds as feed-kinds
use Rattle.replay.proofs.feed.Reads as feed
use Rattle.replay.proofs.finish.Kinds as finish-kinds
use Rattle.replay.proofs.finish.Reads as finish
use Rattle.replay_history.specs.Events.{told_by}
use Rattle.replay_history.proofs.EventsLaws.{replay-called}

-- A run from the table s on: `begin` was called with a port and a limit; then `feed` with pieces that make up the file so far, each on the place, the record
-- buffer and the table that the call before left. Each may return whatever its contract allows. Some octets stand in the record buffer at first.
pub data Playing (s : State) (port limit : ℕ) : List ℕ → Moment → Type 0 where
  begun : (κs : Lfts 1) (a : Dens κs begin-kinds.ps) (r : (res_t begin-kinds.r κs).Denot) (x : AtExit (ended_of 1 begin-kinds.ps begin-kinds.r) κs)
      → state a.0 a.1.0.now ≡ s → a.1.1.0 ≡ port → a.1.1.1.0 ≡ limit → begin.Post κs a r x
      → (room : List ℕ) → length room ≡ room_octets → Playing s port limit [] (moment r room s)
  fed-on : {file : List ℕ} (κs : Lfts 3) (a : Dens κs feed-kinds.ps) (r : (res_t feed-kinds.r κs).Denot) (x : AtExit (ended_of 3 feed-kinds.ps feed-kinds.r) κs)
      → Playing s port limit file (moment a.0 a.1.1.1.0.now (state a.1.0 a.1.1.0.now)) → feed.Post κs a r x
      → Playing s port limit (file ++ a.1.1.1.1.0.now) (moment r.replay x.1.1.1.0.now (state r.table x.1.1.0.now))

-- where a run stands is where the octets of the file so far lead
stands : {s : State} {port limit : ℕ} {file : List ℕ} {m : Moment} → Playing s port limit file m → Stands s port limit file m
stands (begun κs a r x es ep el post room l) = stands-none room l (post ∙ (λ i. beginning (es i) (ep i) (el i)))
stands {s} {port} {limit} (fed-on {file} κs a r x p post) = post.goes_on s port limit file (stands p)

module _ {s : State} {port limit : ℕ} {file : List ℕ} {m : Moment} (z : Listed s) (p : Playing s port limit file m) where
  -- the end of the file here would be that of the whole file
  pub pieces : finished m ≡ replayed s port limit file
  pieces = stands-end (stands p) z

  -- so behind every piece the table is what the file so far makes of it
  pub pieces-table : m.state ≡ (replayed s port limit file).state
  pieces-table = ap (λ (e : End). e.state) pieces

  -- `finish` was called there, and answered r
  module _ (κs : Lfts 0) (a : Dens κs finish-kinds.ps) (r : (res_t finish-kinds.r κs).Denot) (x : AtExit (ended_of 0 finish-kinds.ps finish-kinds.r) κs)
      (e : m.replay ≡ a.0) (post : finish.Post κs a r x) where
    pub pieces-answer : r ≡ (replayed s port limit file).answer
    unfolding ending
    pieces-answer = post.exact ∙ rw (sym (ap sound e) ∙ stands-sound (stands p)) (ap end_at (sym e) ∙ ap (λ (y : End). y.answer) pieces)

    -- the refusal, and "how many it handed over, which must be the number that the file and that limit give"
    pub pieces-refusal : refusal_of r ≡ (script_for s port limit file).refusal
    pieces-refusal = post.refusal s port limit file m z (stands p) e

    pub pieces-count : refusal_of r ≡ 0 → handed_of r ≡ handed_in (script_for s port limit file).calls
    pieces-count = post.counts s port limit file m z (stands p) e

-- A replay into a table that calls led to, from a Start on, leads on from there: so calls and replays may follow one another
pub playing-called : {s : State} {h : History} {port limit : ℕ} {file : List ℕ} {m : Moment} → Called s h → Playing s port limit file m → Called m.state (told_by s port limit file h)
playing-called {s} {h} {port} {limit} {file} c p =
    let z = sized-listed s (reached c).kept.sized in
    rw (pieces-table z p) (replay-called c port limit file)

-- Demand 3: behind every piece the table holds what the history of all these calls says
pub demand3-replay : {s : State} {h : History} {port limit : ℕ} {file : List ℕ} {m : Moment} → Ran s h → Playing s port limit file m → Demand3 ports (told_by s port limit file h) (view m.state)
demand3-replay c p = demand3-table (playing-called (ran-called c) p)
