-- States are equal if their pages are.
use Rattle.std.proofs.Common.{◌≡◌, ℕ, ◌+◌, ◌-◌, ◌<◌, Bool, true, false, cond, [], refl, sym, ap, ◌∙◌, arith}
use Rattle.std.specs.Prelude.{◌==◌, nat_lt}
use Rattle.std.proofs.lemmas.Bool.{lt-ltb, ltb-true}
use Rattle.space.specs.Births.{SpaceState}
use Rattle.space.specs.Pages.{header_text, tuple_page_text as tuple_page}
use Rattle.space.proofs.Determining
use Rattle.reply_cache.specs.Replies.{Replies}
use Rattle.reply_cache.proofs.Determining as Cache
use Rattle.reply_cache.specs.Pages.{reply_text}
use Rattle.protocol.specs.Replica.State.{State, kept_of, page_text}
use Rattle.protocol.specs.Laws.Histories.{PagesDetermine}

-- ---- replies

-- ---- the pages of each sort

reply_page_at : (st : State) (i : ℕ) → i < 256 → page_text st (256 + i) ≡ reply_text (kept_of st i)
unfolding page_text
reply_page_at st i l = go (nat_lt (256 + i) 256) refl (nat_lt (256 + i) 512) refl
  where
    go : (a : Bool) → nat_lt (256 + i) 256 ≡ a → (b : Bool) → nat_lt (256 + i) 512 ≡ b
        → cond a (tuple_page st.space (256 + i)) (cond b (reply_text (kept_of st (256 + i - 256)))
        (cond (256 + i == 512) (header_text st.space st.number) [])) ≡ reply_text (kept_of st i)
    go true a b eb = let m : 256 + i < 256 = ltb-true (256 + i) 256 a in absurd (omega arith)
    go false a true eb = let e : 256 + i - 256 ≡ i = omega arith in ap (λ (j : ℕ). reply_text (kept_of st j)) e
    go false a false eb = let m : 256 + i < 512 = omega arith in absurd (let bad : true ≡ false = sym (lt-ltb (256 + i) 512 m) ∙ eb in cc)

pub tuple_page_at : (st : State) (i : ℕ) → i < 256 → page_text st i ≡ tuple_page st.space i
unfolding page_text
tuple_page_at st i l = rw (lt-ltb i 256 l) refl

pub header_at : (st : State) → page_text st 512 ≡ header_text st.space st.number
unfolding page_text
header_at st = refl

pub pages_determine : PagesDetermine
pages_determine st other s o pages = build st.space other.space st.number other.number st.replies other.replies space.1 space.0 replies
  where
    space : (st.number ≡ other.number) × (st.space ≡ other.space)
    space =
        let l : 512 < 1024 = omega arith in
        Determining.pages_determine st.space other.space st.number other.number s.space o.space (sym (header_at st) ∙ pages 512 l ∙ header_at other)
        (λ page m. let n : page < 1024 = omega arith in sym (tuple_page_at st page m) ∙ pages page n ∙ tuple_page_at other page m)

    replies : st.replies ≡ other.replies
    replies =
        Cache.pages_determine st.replies other.replies s.replies o.replies
        (λ i small. let page : 256 + i < 1024 = omega arith in sym (reply_page_at st i small) ∙ pages (256 + i) page ∙ reply_page_at other i small)

    build : (a a' : SpaceState) (d d' : ℕ) (r r' : Replies) → a ≡ a' → d ≡ d' → r ≡ r'
        → ◌≡◌ {A = State} (record { space = a; number = d; replies = r }) (record { space = a'; number = d'; replies = r' })
    build a a' d d' r r' p q t = rw (p, q, t) refl
