-- No second answer meets the contract of asking for a room, as the checker reads it.
use mathlib.Core.Path.{◌≡◌, sym, ◌∙◌}
use Rattle.std.specs.Prelude.{Result}
use Rattle.answers.specs.declared.Refusal.{Refusal}
use Rattle.answers.proofs.Refusals.{answered_once, gives_apart}
use Rattle.floor.specs.declared.Spot.{Spot}
use Rattle.floor.specs.Floor.{Map}
use Rattle.rooms.specs.declared.Room.{Room}
use Rattle.rooms.specs.Answers.{corners_given, Rooms}
use Rattle.rooms.proofs.room_around.Reads as room-reads

-- its corners tell a room apart
same_room : (a b : Room) → corners_given a ≡ corners_given b → a ≡ b
same_room a b e =
    let l : a.left ≡ b.left = cc in
    let t : a.top ≡ b.top = cc in
    let r : a.right ≡ b.right = cc in
    let o : a.bottom ≡ b.bottom = cc in
    λ i. record { left = l i; top = t i; right = r i; bottom = o i }

pub rooms_only : (m : Map) (s : Spot) (r r' : Result Room Refusal) → Rooms m s r → Rooms m s r' → r ≡ r'
rooms_only m s r r' p q = gives_apart corners_given same_room r r' (answered_once _ (λ k l. k) (λ d e. (d ∙ sym e, tt)) p q).0

pub room_only : (κs : _) (a : _) (r r' : _) (x x' : _) → room-reads.Post κs a r x → room-reads.Post κs a r' x' → r ≡ r'
room_only κs a r r' x x' p q = rooms_only _ _ r r' p q
