-- What a handle holds: a space, or nothing.
use Rattle.std.specs.Prelude.{Option, None, Some}
use base.Fml.{Fml, feq}
use denote.RawPtr.{Ptr, null_ptr}
use Rattle.std.specs.Box.{box_value}
use Rattle.std.specs.Box.Ownership.{box_owns}
use Rattle.std.specs.Global.{Global, Box}
use Rattle.std.specs.contracts.impls.GlobalAllocator.TheImpl.{ghosts}
use Rattle.std.specs.Coded.{Coded, coded_option}
use Rattle.space.specs.Births.{SpaceState, space_code}
use Rattle.space.specs.contracts.tuples.Space as space
use Rattle.space_library.specs.declared.parcel.Parcel.{Parcel}

-- the state of the space that a handle holds; none if it is closed
abbrev pub Held : Type 0
Held = Option SpaceState

-- what is held, as numbers and lists
abbrev pub held_code : Coded Held
held_code = coded_option space_code

-- the allocator of each space. All its values are alike.
abbrev pub the_heap : Global
the_heap = record { memory = record { seal = tt } }

-- A box with a space in this state lies at the pointer, and is the owner's.
abbrev pub held_at : Ptr → SpaceState → Fml
held_at p s = box_owns (ghosts.dealloc_token the_heap) space.the_row p s

-- What a handle owns: nothing if its pointer is null, and else the box there.
abbrev pub held_in : Ptr → Held → Fml
held_in p None = feq Ptr p null_ptr
held_in p (Some s) = held_at p s

-- what a box holds, if there is one
abbrev pub boxed : Option (Box SpaceState) → Held
boxed None = None
boxed (Some b) = Some (box_value b)

-- what a parcel holds, if there is one
abbrev pub parcel_value : {A : Type 0} → Option (Parcel SpaceState A) → Held
parcel_value None = None
parcel_value (Some p) = Some p.value
