-- The plain tuples that the Rust values stand for.
use Rattle.std.specs.Prelude.{List}
use Rattle.std.specs.Coded.{Coded, coded_list}
use Rattle.tuple_tree.specs.Values.{TupleTree}
use Rattle.tuple_tree.specs.ValuesCode.{tuple_code}

abbrev pub tuples_code : Coded (List TupleTree)
tuples_code = coded_list tuple_code
