-- The keys of a table.
use Rattle.std.proofs.Common.{◌≡◌, ℕ, true, ◌&&◌, List, [], ◌∷◌, ap, refl, sym, ◌∙◌}
use Rattle.std.specs.Prelude.{All, String, string_bytes, Contains}
use Rattle.std.specs.declared.alloc.Global.{Global}
use Rattle.std.specs.List.{list_any, list_all}
use Rattle.std.specs.Str.{bytes_eq}
use Rattle.std.specs.Map as maps
use Rattle.std.proofs.lemmas.Cmp.{nat_list_eq_equiv}
use Rattle.std.proofs.lemmas.List.Elements.{All-weaker}
use Rattle.std.proofs.lemmas.List.Sums.{AllPass-from_list_all, list_all-from_AllPass}
use Rattle.std.proofs.lemmas.Map.Views.{Contains-from_any, list_any-from_Contains}
use Rattle.std.proofs.lemmas.Slice.Eq.{bytes_eq-Decides}
use Rattle.toml.specs.View.{members_view}
use Rattle.toml.specs.declared.value.Value.{Value}
use Rattle.party_keys.specs.Reading.{names_in, known_keys, HasKnownKeys}
use Rattle.party_keys.specs.Judging.{is_known}

pub known_as : (key : List ℕ) → is_known key ≡ list_any (bytes_eq key) known_keys
unfolding is_known
known_as key = refl

-- the test of a map's keys is that of its members
all_same : (es : List (String Global × Value)) → list_all (λ key. is_known (string_bytes key)) (maps.keys_of es) ≡ list_all is_known (names_in (members_view es))
all_same [] = refl
all_same (e ∷ es) = ap (λ b. is_known (string_bytes e.0) && b) (all_same es)

pub names_known : (names : List (List ℕ)) → list_all is_known names ≡ true → All (Contains known_keys) names
names_known names h =
    All-weaker (λ key. is_known key ≡ true) (Contains known_keys)
    (λ key e. Contains-from_any (λ x y. (bytes_eq-Decides x y).0) key known_keys (sym (known_as key) ∙ e)) names (AllPass-from_list_all is_known names h)

pub all_known : (es : List (String Global × Value)) → list_all (λ key. is_known (string_bytes key)) (maps.keys_of es) ≡ true → HasKnownKeys (members_view es)
all_known es h = names_known (names_in (members_view es)) (sym (all_same es) ∙ h)

pub known_all : (es : List (String Global × Value)) → HasKnownKeys (members_view es) → list_all (λ key. is_known (string_bytes key)) (maps.keys_of es) ≡ true
known_all es h =
    all_same es ∙ list_all-from_AllPass is_known (names_in (members_view es))
    (All-weaker (Contains known_keys) (λ key. is_known key ≡ true)
    (λ key e. known_as key ∙ list_any-from_Contains nat_list_eq_equiv key known_keys e) (names_in (members_view es)) h)
