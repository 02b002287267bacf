-- Every file, cut in any way, is a run that the contracts allow: so what Runs.antt says of runs is said of something.
-- Each call is given a result and octets, and its contract is shown to allow them.
use Prim.{tt}
use Prim.Native.Nat.{ℕ}
use denote.Ref.{Bor, MutBor}
use mathlib.Core.Path.{◌≡◌, refl}
use mathlib.Core.List.{List, [], ◌∷◌, ◌++◌}
use lib.ListN.{length}
use Rattle.place.specs.State.{State}
use Rattle.replay.specs.Place.{room_octets, beginning}
use Rattle.replay.specs.Feeding.{Moment, moment}
use Rattle.replay.specs.Promises.{feeding}
use Rattle.replay.proofs.EndLaws.{feeds-exactly}
use Rattle.replay_history.proofs.Runs.{Playing, begun, fed-on}

-- octets in block k, lent to be written or shown: the table's buffer in 0, the record buffer in 1, a piece in 2
abbrev lent : ℕ → List ℕ → MutBor (List ℕ)
lent k b = record { ref_ptr = (k, 0); ghost_name = k; now = b }

abbrev shown : ℕ → List ℕ → Bor (List ℕ)
shown k b = record { ref_ptr = (k, 0); now = b }

module _ (s : State) (port limit : ℕ) (room : List ℕ) (l : length room ≡ room_octets) where
  one_more : {file : List ℕ} (m : Moment) → Playing s port limit file m → (piece : List ℕ) → Playing s port limit (file ++ piece) (feeding m piece)
  one_more m p piece =
      let n = feeding m piece in
      fed-on ([], ([], ([], tt)))
      (m.replay, (m.state.table, (lent 0 m.state.buf, (lent 1 m.room, (shown 2 piece, tt)))))
      (record { replay = n.replay; table = n.state.table })
      (m.replay, (m.state.table, (lent 0 n.state.buf, (lent 1 n.room, (shown 2 piece, tt)))))
      p
      (feeds-exactly refl)

  -- the pieces of a file, the last one first
  abbrev joined : List (List ℕ) → List ℕ
  joined [] = []
  joined (piece ∷ before) = joined before ++ piece

  pub any-pieces : (pieces : List (List ℕ)) → (m : Moment) × Playing s port limit (joined pieces) m
  any-pieces [] = (
    moment (beginning s port limit) room s,
    begun ([], tt) (s.table, (shown 0 s.buf, (port, (limit, tt)))) (beginning s port limit) (s.table, (shown 0 s.buf, (port, (limit, tt)))) refl refl refl refl room l,
  )
  any-pieces (piece ∷ before) = let c = any-pieces before in (feeding c.0 piece, one_more c.0 c.1 piece)
