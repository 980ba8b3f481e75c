use Rattle.std.proofs.Common.{refl}
use Rattle.hash_lanes.proofs.Vectors.{eight, eight_numbers}
use Rattle.hash_lanes.proofs.four.gather.Goals as goal

pub returns : goal.returns
returns c = record {
  first = eight_numbers c.args.a.now c.told-a;
  second = eight_numbers c.args.b.now c.told-b;
  third = eight_numbers c.args.c.now c.told-c;
  fourth = eight_numbers c.args.d.now c.told-d;
  shape = eight refl refl refl refl refl refl refl refl;
}
