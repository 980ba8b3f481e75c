-- The test of a match decides it.
use Rattle.std.proofs.Common.{◌≡◌, Bool, true, false, refl, ap}
use Rattle.std.specs.Bool.{Decides, beq}
use Rattle.std.proofs.lemmas.Bool.{and_parts, and_from}
use Rattle.std.proofs.lemmas.Bool.Decides.{Decides-int_eq}
use Rattle.std.proofs.lemmas.Slice.Eq.{bytes_eq-Decides}
use Rattle.tuple_tree.specs.Items.{TreeItem, leaf, inner, none, item}
use Rattle.tuple_tree.specs.declared.atoms.Kind.{Kind}
use Rattle.tuple_tree.specs.declared.atoms.Kind.TheVariants as kinds
use Rattle.tuple_tree.specs.Values.{Datum, number, text, bytes, truth, wide, Slot, actual, any, formal, kind_of}
use Rattle.tuple_tree.specs.Values.{TupleTree, TemplateTree}
use Rattle.template_match.specs.Matches.{Matches, FieldMatches, SlotMatches}
use Rattle.template_match.specs.Tests.{is_match, is_field_match, is_slot_match, is_of_kind, datum_eq}

beq_decides : (b c : Bool) → Decides (beq b c) (b ≡ c)
beq_decides true true = (λ h. refl, λ e. refl)
beq_decides true false = (λ h. cc, λ e. cc)
beq_decides false true = (λ h. cc, λ e. cc)
beq_decides false false = (λ h. refl, λ e. refl)

-- plain values by kind
pub datum_decides : (x y : Datum) → Decides (datum_eq x y) (x ≡ y)
datum_decides (number m) (number n) = let d = Decides-int_eq m n in (λ h. ap number (d.0 h), λ e. d.1 cc)
datum_decides (number m) (text s) = (λ h. cc, λ e. cc)
datum_decides (number m) (bytes s) = (λ h. cc, λ e. cc)
datum_decides (number m) (truth b) = (λ h. cc, λ e. cc)
datum_decides (number m) (wide n) = (λ h. cc, λ e. cc)
datum_decides (text s) (number n) = (λ h. cc, λ e. cc)
datum_decides (text s) (text t) = let d = bytes_eq-Decides s t in (λ h. ap text (d.0 h), λ e. d.1 cc)
datum_decides (text s) (bytes t) = (λ h. cc, λ e. cc)
datum_decides (text s) (truth b) = (λ h. cc, λ e. cc)
datum_decides (text s) (wide n) = (λ h. cc, λ e. cc)
datum_decides (bytes s) (number n) = (λ h. cc, λ e. cc)
datum_decides (bytes s) (text t) = (λ h. cc, λ e. cc)
datum_decides (bytes s) (bytes t) = let d = bytes_eq-Decides s t in (λ h. ap bytes (d.0 h), λ e. d.1 cc)
datum_decides (bytes s) (truth b) = (λ h. cc, λ e. cc)
datum_decides (bytes s) (wide n) = (λ h. cc, λ e. cc)
datum_decides (truth b) (number n) = (λ h. cc, λ e. cc)
datum_decides (truth b) (text s) = (λ h. cc, λ e. cc)
datum_decides (truth b) (bytes s) = (λ h. cc, λ e. cc)
datum_decides (truth b) (truth c) = let d = beq_decides b c in (λ h. ap truth (d.0 h), λ e. d.1 cc)
datum_decides (truth b) (wide n) = (λ h. cc, λ e. cc)
datum_decides (wide m) (number n) = (λ h. cc, λ e. cc)
datum_decides (wide m) (text s) = (λ h. cc, λ e. cc)
datum_decides (wide m) (bytes s) = (λ h. cc, λ e. cc)
datum_decides (wide m) (truth b) = (λ h. cc, λ e. cc)
datum_decides (wide m) (wide n) = let d = Decides-int_eq m n in (λ h. ap wide (d.0 h), λ e. d.1 cc)

-- a value's kind
pub kind_decides : (k : Kind) (v : TreeItem Datum) → Decides (is_of_kind k v) (kind_of v ≡ k)
kind_decides kinds.Number (leaf (number n)) = (λ h. refl, λ e. refl)
kind_decides kinds.Number (leaf (text s)) = (λ h. cc, λ e. cc)
kind_decides kinds.Number (leaf (bytes s)) = (λ h. cc, λ e. cc)
kind_decides kinds.Number (leaf (truth b)) = (λ h. cc, λ e. cc)
kind_decides kinds.Number (inner t) = (λ h. cc, λ e. cc)
kind_decides kinds.Number (leaf (wide n)) = (λ h. cc, λ e. cc)
kind_decides kinds.Text (leaf (number n)) = (λ h. cc, λ e. cc)
kind_decides kinds.Text (leaf (text s)) = (λ h. refl, λ e. refl)
kind_decides kinds.Text (leaf (bytes s)) = (λ h. cc, λ e. cc)
kind_decides kinds.Text (leaf (truth b)) = (λ h. cc, λ e. cc)
kind_decides kinds.Text (inner t) = (λ h. cc, λ e. cc)
kind_decides kinds.Text (leaf (wide n)) = (λ h. cc, λ e. cc)
kind_decides kinds.Bytes (leaf (number n)) = (λ h. cc, λ e. cc)
kind_decides kinds.Bytes (leaf (text s)) = (λ h. cc, λ e. cc)
kind_decides kinds.Bytes (leaf (bytes s)) = (λ h. refl, λ e. refl)
kind_decides kinds.Bytes (leaf (truth b)) = (λ h. cc, λ e. cc)
kind_decides kinds.Bytes (inner t) = (λ h. cc, λ e. cc)
kind_decides kinds.Bytes (leaf (wide n)) = (λ h. cc, λ e. cc)
kind_decides kinds.Truth (leaf (number n)) = (λ h. cc, λ e. cc)
kind_decides kinds.Truth (leaf (text s)) = (λ h. cc, λ e. cc)
kind_decides kinds.Truth (leaf (bytes s)) = (λ h. cc, λ e. cc)
kind_decides kinds.Truth (leaf (truth b)) = (λ h. refl, λ e. refl)
kind_decides kinds.Truth (inner t) = (λ h. cc, λ e. cc)
kind_decides kinds.Truth (leaf (wide n)) = (λ h. cc, λ e. cc)
kind_decides kinds.Tuple (leaf (number n)) = (λ h. cc, λ e. cc)
kind_decides kinds.Tuple (leaf (text s)) = (λ h. cc, λ e. cc)
kind_decides kinds.Tuple (leaf (bytes s)) = (λ h. cc, λ e. cc)
kind_decides kinds.Tuple (leaf (truth b)) = (λ h. cc, λ e. cc)
kind_decides kinds.Tuple (inner t) = (λ h. refl, λ e. refl)
kind_decides kinds.Tuple (leaf (wide n)) = (λ h. cc, λ e. cc)
kind_decides kinds.Wide (leaf (number n)) = (λ h. cc, λ e. cc)
kind_decides kinds.Wide (leaf (text s)) = (λ h. cc, λ e. cc)
kind_decides kinds.Wide (leaf (bytes s)) = (λ h. cc, λ e. cc)
kind_decides kinds.Wide (leaf (truth b)) = (λ h. cc, λ e. cc)
kind_decides kinds.Wide (inner t) = (λ h. cc, λ e. cc)
kind_decides kinds.Wide (leaf (wide n)) = (λ h. refl, λ e. refl)

slot_decides : (s : Slot) (v : TreeItem Datum) → Decides (is_slot_match s v) (SlotMatches s v)
slot_decides (actual x) (leaf y) = let d = datum_decides x y in (λ h. let e = d.0 h in cc, λ e. d.1 cc)
slot_decides (actual x) (inner t) = (λ h. cc, λ e. cc)
slot_decides any v = (λ h. tt, λ e. refl)
slot_decides (formal k) v = kind_decides k v

mutual
  field_decides : (f : TreeItem Slot) (v : TreeItem Datum) → Decides (is_field_match f v) (FieldMatches f v)
  field_decides (leaf s) v = slot_decides s v
  field_decides (inner p) (leaf x) = (λ h. cc, λ e. absurd e)
  field_decides (inner p) (inner t) = is_match-decides p t

  pub is_match-decides : (p : TemplateTree) (t : TupleTree) → Decides (is_match p t) (Matches p t)
  is_match-decides none none = (λ h. tt, λ m. refl)
  is_match-decides none (item v t) = (λ h. cc, λ m. absurd m)
  is_match-decides (item f p) none = (λ h. cc, λ m. absurd m)
  is_match-decides (item f p) (item v t) =
      let d = field_decides f v in
      let r = is_match-decides p t in
      (λ h. let b = and_parts (is_field_match f v) (is_match p t) h in (d.0 b.0, r.0 b.1), λ m. and_from (is_field_match f v) (is_match p t) (d.1 m.0) (r.1 m.1))
