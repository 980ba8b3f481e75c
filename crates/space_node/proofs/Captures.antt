-- A closure may go to another thread if all values that it holds may.
use mathlib.Core.List.{List, [], ◌∷◌}
use mir.Syntax.{Sym}
use denote.RattleType.{RattleType}
use denote.Param.Send.{IsSend, AllSend}
use denote.Param.SendFields.{FieldsHave, as_row_send, declared_send}
use denote.Struct.Field.{row_field}
use denote.Struct.Tuple.{TupleAt, type_at, parts}

each_send : (Ts : List RattleType) → AllSend Ts → FieldsHave IsSend (parts Ts)
each_send [] s = tt
each_send (T ∷ Ts) s = (as_row_send (row_field T) s.0, each_send Ts s.1)

-- the name is the closure's own, and its captures stand in the order of their use
pub closure_send : (ν : Sym) (Ts : List RattleType) → AllSend Ts → IsSend (TupleAt ν Ts)
closure_send ν Ts s = declared_send (type_at ν Ts) (each_send Ts s)
