-- `replay::feed` meets its contract: the length of the record buffer is judged, then the place; then the piece is fed.
-- Each return is one law of the contract (feeds-short, feeds-unsound, feeds-sound).
use mathlib.Core.Path.{◌≡◌, sym, ap, ◌∙◌}
use Prim.Native.Nat.{ℕ}
use Rattle.place.specs.State.{state}
use Rattle.records.specs.Place.{refused_with}
use Rattle.replay.specs.Feeding.{moment}
use Rattle.replay.proofs.ContractLaws.{feeds-short, feeds-sound, feeds-unsound}
use Rattle.replay.proofs.EndLaws.{feeds-exactly}
use Rattle.replay.proofs.feed.Goals as goal
use Rattle.replay.proofs.feed.Goals.{then-room-ne-ROOM-via-then-room-ne-ROOM, then-room-ne-ROOM-via-else-room-ne-ROOM+then-not-is_sound}

pub returns-then-room-ne-ROOM : goal.returns-then-room-ne-ROOM
returns-then-room-ne-ROOM c =
    let a = c.args in
    let m = moment a.r a.room.now (state a.t a.buffer.now) in
    let e : c.refused_with.result ≡ refused_with 1 = c.refused_with.ensures ∙ ap (λ (n : ℕ). refused_with n) c.from.ensures in
    feeds-exactly (
    elim c.then-room-ne-ROOM.branch [
      | then-room-ne-ROOM-via-then-room-ne-ROOM w ↦ feeds-short m a.piece.now e w.if-room-ne-ROOM.true
      | then-room-ne-ROOM-via-else-room-ne-ROOM+then-not-is_sound w ↦
          feeds-unsound m a.piece.now e w.if-room-ne-ROOM.false (sym w.is_sound.ensures ∙ w.if-not-is_sound.true)
    ]
    )

pub returns : goal.returns
returns c =
    let a = c.args in
    feeds-exactly (c.feed_parts.ensures ∙ feeds-sound (moment a.r a.room.now (state a.t a.buffer.now)) a.piece.now c.if-room-ne-ROOM.false (sym c.is_sound.ensures ∙ c.if-not-is_sound.false))
