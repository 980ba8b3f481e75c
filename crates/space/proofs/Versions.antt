-- What a space says of a client's operation, by whether it refuses it.
use Rattle.std.proofs.Common.{◌≡◌, ℕ, Bool, true, false, cond, refl, sym, ap, ◌∙◌}
use Rattle.std.specs.Prelude.{◌||◌}
use Rattle.tuple_codec.specs.Operations.{Operation, out, rdp, inp, cas, rd_all, in_all, upgrade, refused, is_read_only}
use Rattle.space.specs.Applying.{Contents, is_unknown, is_forbidden, refuses, outcome, served_outcome, wants_memory}
use Rattle.space.specs.Applying.{served_wants_memory}
use Rattle.space.specs.Births.{SpaceState, tuples_of, state_after, served_state}
use Rattle.space.specs.declared.version.Version.{Version}

neither : (a b : Bool) → (a || b) ≡ false → a ≡ false
neither true b e = absurd cc
neither false b e = refl

no_second : (a b : Bool) → b ≡ false → (a || b) ≡ a
no_second true b e = refl
no_second false b e = e

-- No client is forbidden to read.
read_allowed : (client : ℕ) (o : Operation) → is_read_only o ≡ true → is_forbidden client o ≡ false
read_allowed client (out t) h = refl
read_allowed client (rdp p) h = refl
read_allowed client (inp p) h = refl
read_allowed client (cas p t) h = refl
read_allowed client (rd_all n p) h = refl
read_allowed client (in_all n p) h = refl
read_allowed client upgrade h = absurd cc

pub read_refused : (v : Version) (client : ℕ) (o : Operation) → is_read_only o ≡ true → refuses v client o ≡ is_unknown v o
read_refused v client o h = no_second (is_unknown v o) (is_forbidden client o) (read_allowed client o h)

pub read_outcome : (ts : Contents) (client other : ℕ) (o : Operation) → is_read_only o ≡ true → outcome ts client o ≡ outcome ts other o
read_outcome ts client other o h =
    ap (λ b. cond b refused (served_outcome ts o)) (read_refused ts.version client o h ∙ sym (read_refused ts.version other o h))

module _ (s : SpaceState) (client : ℕ) (o : Operation) where
  pub refused_outcome : refuses s.version client o ≡ true → refused ≡ outcome (tuples_of s) client o
  refused_outcome e = sym (ap (λ b. cond b refused (served_outcome (tuples_of s) o)) e)

  pub state_stays : refuses s.version client o ≡ true → s ≡ state_after s client o
  state_stays e = sym (ap (λ b. cond b s (served_state s o)) e)

  pub answers_served : refuses s.version client o ≡ false → served_outcome (tuples_of s) o ≡ outcome (tuples_of s) client o
  answers_served e = sym (ap (λ b. cond b refused (served_outcome (tuples_of s) o)) e)

  pub follows_served : refuses s.version client o ≡ false → served_state s o ≡ state_after s client o
  follows_served e = sym (ap (λ b. cond b s (served_state s o)) e)

  pub known : refuses s.version client o ≡ false → is_unknown s.version o ≡ false
  known e = neither (is_unknown s.version o) (is_forbidden client o) e

  pub unknown_refused : is_unknown s.version o ≡ true → refuses s.version client o ≡ true
  unknown_refused e = ap (λ b. b || is_forbidden client o) e

pub wants_served : (s : SpaceState) (o : Operation) → is_unknown s.version o ≡ false → wants_memory (tuples_of s) o ≡ served_wants_memory (tuples_of s) o
wants_served s o e = ap (λ b. cond b false (served_wants_memory (tuples_of s) o)) e
