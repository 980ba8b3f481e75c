-- What the fields of a list of births stand for.
use Rattle.std.specs.Prelude.{◌-◌, drop, vec_len, vec_capacity}
use Rattle.space.specs.Ages.{ListedBirths}
use Rattle.space.specs.declared.birth_list.BirthList.TheInside.{Inside}

abbrev pub listed_births : Inside → ListedBirths
listed_births list =
    record { births = drop list.taken list.births.items; room = vec_capacity list.births - vec_len list.births }
