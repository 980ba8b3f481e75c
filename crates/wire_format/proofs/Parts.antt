-- Laws of the parts of messages.
use Rattle.std.proofs.Common.{◌≡◌, inl, inr, ℕ, nat_le, ◌^◌, ◌<◌, ◌≤◌, Bool, false, ◌&&◌, cond, List, [], ◌∷◌, ◌++◌}
use Rattle.std.proofs.Common.{length, take, drop, Some, None, ap, sym, subst, refl, ◌∙◌, arith, append_assoc}
use Rattle.std.proofs.Common.{length-append}
use Rattle.std.proofs.lemmas.List.{take-append-drop, length-take, take_at, drop_at}
use Rattle.std.proofs.lemmas.Nat.{be_bytes_4}
use Rattle.std.proofs.lemmas.Bool.{eqb-true, ltb-false, le-ltb, leb-true, le-leb}
use Rattle.std.specs.Int.{w16, w32, w64, to_be_bytes, from_be_bytes}
use lib.Dec.{ltb, eqb}
use Rattle.byteorder.specs.Endian.{big_number}
use Rattle.byteorder.specs.Numbers.{big_from-lt, big_from-take}
use Rattle.tuple_tree.specs.Values.{AreBytes}
use Rattle.tuple_tree.specs.Reading.{◌>>=◌, byte_at, bytes_at, number_of}
use Rattle.tuple_tree.proofs.Readers.{Found, bind_some, parts, guard_fails, guard_holds, choice, bytes_take, bytes_drop}
use Rattle.tuple_tree.proofs.Readers.{byte_found, moved}
use Rattle.tuple_tree.proofs.Numbers.{number_found, number_again}
use Rattle.tuple_codec.proofs.Grammar.{Reads}
use Rattle.terms.specs.declared.order.Mode.{Mode}
use Rattle.terms.specs.declared.order.Mode.TheVariants as modes
use Rattle.terms.specs.declared.state.Level.{Level}
use Rattle.terms.specs.declared.state.Level.TheVariants as levels
use Rattle.wire_format.specs.Messages.{CheckpointEntryData, BatchEntryData, ViewChangeData, MacData}
use Rattle.wire_format.specs.Spelling.{mode_byte, level_byte, piece, checkpoint_entry_spelling, batch_entry_spelling}
use Rattle.wire_format.specs.Spelling.{view_change_spelling, mac_spelling, IsDigest, IsCheckpointEntry, IsBatchEntry}
use Rattle.wire_format.specs.Spelling.{IsMac, IsViewChange, checkpoint_entry_before, batch_entry_before, named_before}
use Rattle.wire_format.specs.Spelling.{mac_before}
use Rattle.wire_format.specs.Reading.{digest_at, mode_of, mode_at, level_of, level_at, piece_at, checkpoint_entry_at}
use Rattle.wire_format.specs.Reading.{batch_entry_at, checkpoint_entries_at, batch_entries_at, view_change_at, mac_at}
use Rattle.wire_format.specs.Reading.{macs_at}
use Rattle.wire_format.proofs.Forms.{Format, both_of, passing_of, ascending_of, made_of}

-- ---- numbers and bytes

abbrev pub IsBelow : ℕ → ℕ → Type 0
IsBelow k n = n < 256 ^ k

pub number_2_reads : Reads (IsBelow 2) (to_be_bytes w16) (number_of 2)
number_2_reads = record { found = number_found 2; again = number_again 2 }

pub number_8_reads : Reads (IsBelow 8) (to_be_bytes w64) (number_of 8)
number_8_reads = record { found = number_found 8; again = number_again 8 }

whole_4 : (bs : List ℕ) → 4 ≤ length bs → AreBytes bs → bs ≡ to_be_bytes w32 (big_number 4 bs) ++ drop 4 bs
whole_4 bs l h =
    let b : AreBytes (take 4 bs) = bytes_take 4 bs h in
    let n : big_number 4 bs ≡ from_be_bytes w32 (take 4 bs) = sym (big_from-take 0 4 4 bs (omega arith)) ∙ omega arith in
    let q = be_bytes_4 (take 4 bs) (big_number 4 bs) (omega (arith, length-take 4 bs)) b n in
    sym (take-append-drop 4 bs) ∙ ap (λ xs. xs ++ drop 4 bs) (sym q)

number_4_found : Found (IsBelow 4) (to_be_bytes w32) (number_of 4)
unfolding number_of
number_4_found bs rest n h e =
    let g = guard_fails (ltb (length bs) 4) (Some (big_number 4 bs, drop 4 bs)) (n, rest) e in
    let p = parts g.1 in
    moved (IsBelow 4) (to_be_bytes w32) bs (record { whole = whole_4 bs (ltb-false _ _ g.0) h; bytes = bytes_drop 4 bs h }, big_from-lt 0 4 bs h) p.0 p.1

pub number_4_reads : Reads (IsBelow 4) (to_be_bytes w32) (number_of 4)
number_4_reads = record { found = number_4_found; again = number_again 4 }

pub byte_reads : Reads (λ b. b < 256) (λ b. b ∷ []) byte_at
byte_reads = record { found = byte_found; again = λ b rest h. refl }

abbrev IsOf : ℕ → List ℕ → Type 0
IsOf n s = (length s ≡ n) × AreBytes s

bytes_found : (n : ℕ) → Found (IsOf n) (λ s. s) (bytes_at n)
unfolding bytes_at
bytes_found n bs rest s h e =
    let k = guard_fails (ltb (length bs) n) (Some (take n bs, drop n bs)) (s, rest) e in
    let p = parts k.1 in
    let l : n ≤ length bs = ltb-false _ _ k.0 in
    moved (IsOf n) (λ s. s) bs
    (record { whole = sym (take-append-drop n bs); bytes = bytes_drop n bs h }, (omega (arith, length-take n bs), bytes_take n bs h)) p.0 p.1

pub bytes_again : (n : ℕ) (s rest : List ℕ) → length s ≡ n → bytes_at n (s ++ rest) ≡ Some (s, rest)
unfolding bytes_at
bytes_again n s rest e =
    let l : ltb (length (s ++ rest)) n ≡ false = le-ltb (length (s ++ rest)) n (omega (arith, length-append s rest)) in
    rw (l, take_at s rest n e, drop_at s rest n e) refl

pub digest_reads : Reads IsDigest (λ s. s) digest_at
unfolding digest_at
digest_reads = record {
  found = λ bs rest s h e. let f = bytes_found 32 bs rest s h e in (f.0, record { whole = f.1.0; bytes = f.1.1 });
  again = λ s rest h. bytes_again 32 s rest h.whole;
}

-- ---- a length, and so many bytes

abbrev pub IsPiece : List ℕ → Type 0
IsPiece s = (length s < 2 ^ 32) × AreBytes s

piece_found : Found IsPiece piece piece_at
unfolding piece_at
piece_found bs rest s h e =
    let k = bind_some (number_of 4 bs) (λ n. bytes_at n.0 n.1) (s, rest) e in
    let a = number_4_reads.found bs k.0.1 k.0.0 h k.1 in
    let b = bytes_found k.0.0 k.0.1 rest s a.0.bytes k.2 in (
      record {
        whole = a.0.whole ∙ ap (λ xs. to_be_bytes w32 k.0.0 ++ xs) b.0.whole ∙ sym (append_assoc (to_be_bytes w32 k.0.0) s rest) ∙ ap (λ n. (to_be_bytes w32 n ++ s) ++ rest) (sym b.1.0);
        bytes = b.0.bytes;
      },
      (subst (λ n. n < 2 ^ 32) (sym b.1.0) a.1, b.1.1),
    )

pub piece_there : (s rest : List ℕ) → length s < 2 ^ 32 → piece_at (piece s ++ rest) ≡ Some (s, rest)
unfolding piece_at
piece_there s rest l =
    ap (λ bs. number_of 4 bs >>= λ n. bytes_at n.0 n.1) (append_assoc (to_be_bytes w32 (length s)) s rest)
    ∙ ap (λ o. o >>= λ n. bytes_at n.0 n.1) (number_again 4 (length s) (s ++ rest) l)
    ∙ bytes_again (length s) s rest refl

pub piece_reads : Reads IsPiece piece piece_at
piece_reads = record { found = piece_found; again = λ s rest h. piece_there s rest h.0 }

-- ---- modes and levels

mode_of_found : (b : ℕ) (m : Mode) → mode_of b ≡ Some m → b ≡ mode_byte m
mode_of_found b m e = elim (choice b 0 (Some modes.Ordered) (cond (eqb b 1) (Some modes.ReadOnly) None) m e) [
  | inl k ↦ let q : modes.Ordered ≡ m = cc in k.0 ∙ ap mode_byte q
  | inr k ↦ let g = guard_holds (eqb b 1) (Some modes.ReadOnly) m k in let q : modes.ReadOnly ≡ m = cc in eqb-true b 1 g.0 ∙ ap mode_byte q
]

mode_found : Found (λ m. Unit {0}) (λ m. mode_byte m ∷ []) mode_at
unfolding mode_at
mode_found bs rest v h e =
    let k = bind_some (byte_at bs) (λ b. mode_of b.0 >>= λ m. Some (m, b.1)) (v, rest) e in
    let a = byte_found bs k.0.1 k.0.0 h k.1 in
    let m = bind_some (mode_of k.0.0) (λ m. Some (m, k.0.1)) (v, rest) k.2 in
    let p = parts m.2 in
    moved (λ m. Unit {0}) (λ m. mode_byte m ∷ []) bs (record { whole = a.0.whole ∙ ap (λ b. b ∷ k.0.1) (mode_of_found k.0.0 m.0 m.1); bytes = a.0.bytes }, tt) p.0 p.1

mode_again : (m : Mode) (rest : List ℕ) → mode_at (mode_byte m ∷ rest) ≡ Some (m, rest)
unfolding mode_at
mode_again modes.Ordered rest = refl
mode_again modes.ReadOnly rest = refl

pub mode_reads : Reads (λ m. Unit {0}) (λ m. mode_byte m ∷ []) mode_at
mode_reads = record { found = mode_found; again = λ m rest h. mode_again m rest }

level_of_found : (b : ℕ) (l : Level) → level_of b ≡ Some l → b ≡ level_byte l
level_of_found b l e = elim (choice b 0 (Some levels.Root) (cond (eqb b 1) (Some levels.Inner) (cond (eqb b 2) (Some levels.Page) None)) l e) [
  | inl k ↦ let q : levels.Root ≡ l = cc in k.0 ∙ ap level_byte q
  | inr f ↦ elim (choice b 1 (Some levels.Inner) (cond (eqb b 2) (Some levels.Page) None) l f) [
    | inl k ↦ let q : levels.Inner ≡ l = cc in k.0 ∙ ap level_byte q
    | inr k ↦ let g = guard_holds (eqb b 2) (Some levels.Page) l k in let q : levels.Page ≡ l = cc in eqb-true b 2 g.0 ∙ ap level_byte q
  ]
]

level_found : Found (λ l. Unit {0}) (λ l. level_byte l ∷ []) level_at
unfolding level_at
level_found bs rest v h e =
    let k = bind_some (byte_at bs) (λ b. level_of b.0 >>= λ l. Some (l, b.1)) (v, rest) e in
    let a = byte_found bs k.0.1 k.0.0 h k.1 in
    let m = bind_some (level_of k.0.0) (λ l. Some (l, k.0.1)) (v, rest) k.2 in
    let p = parts m.2 in
    moved (λ l. Unit {0}) (λ l. level_byte l ∷ []) bs (record { whole = a.0.whole ∙ ap (λ b. b ∷ k.0.1) (level_of_found k.0.0 m.0 m.1); bytes = a.0.bytes }, tt) p.0 p.1

level_again : (l : Level) (rest : List ℕ) → level_at (level_byte l ∷ rest) ≡ Some (l, rest)
unfolding level_at
level_again levels.Root rest = refl
level_again _ rest = refl

pub level_reads : Reads (λ l. Unit {0}) (λ l. level_byte l ∷ []) level_at
level_reads = record { found = level_found; again = λ l rest h. level_again l rest }

-- ---- as formats

abbrev pub word : Format ℕ
word = record { IsValue = IsBelow 2; spelling = to_be_bytes w16; at = number_of 2; reads = number_2_reads }

abbrev pub long : Format ℕ
long = record { IsValue = IsBelow 8; spelling = to_be_bytes w64; at = number_of 8; reads = number_8_reads }

abbrev pub byte : Format ℕ
byte = record { IsValue = λ b. b < 256; spelling = λ b. b ∷ []; at = byte_at; reads = byte_reads }

abbrev pub digest : Format (List ℕ)
digest = record { IsValue = IsDigest; spelling = λ s. s; at = digest_at; reads = digest_reads }

abbrev pub bytes : Format (List ℕ)
bytes = record { IsValue = IsPiece; spelling = piece; at = piece_at; reads = piece_reads }

abbrev pub mode : Format Mode
mode = record { IsValue = λ m. Unit {0}; spelling = λ m. mode_byte m ∷ []; at = mode_at; reads = mode_reads }

abbrev pub level : Format Level
level = record { IsValue = λ l. Unit {0}; spelling = λ l. level_byte l ∷ []; at = level_at; reads = level_reads }

-- ---- entries and MACs

pub checkpoint_entry_reads : Reads IsCheckpointEntry checkpoint_entry_spelling checkpoint_entry_at
unfolding checkpoint_entry_at
checkpoint_entry_reads = made_of (both_of long digest) IsCheckpointEntry checkpoint_entry_spelling (λ p. record { number = p.0; digest = p.1 }) (λ m. (m.number, m.digest)) (λ p h. (h, refl)) (λ m h. (h, refl))

pub batch_entry_reads : Reads IsBatchEntry batch_entry_spelling batch_entry_at
unfolding batch_entry_at
batch_entry_reads = made_of (both_of long (both_of digest long)) IsBatchEntry batch_entry_spelling (λ p. record { number = p.0; digest = p.1.0; view = p.1.1 }) (λ m. (m.number, (m.digest, m.view))) (λ p h. (h, refl)) (λ m h. (h, refl))

pub mac_reads : Reads IsMac mac_spelling mac_at
unfolding mac_at
mac_reads = made_of (both_of word digest) IsMac mac_spelling (λ p. record { receiver = p.0; mac = p.1 }) (λ m. (m.receiver, m.mac)) (λ p h. (h, refl)) (λ m h. (h, refl))

abbrev pub checkpoint_entry : Format CheckpointEntryData
checkpoint_entry = record { IsValue = IsCheckpointEntry; spelling = checkpoint_entry_spelling; at = checkpoint_entry_at; reads = checkpoint_entry_reads }

abbrev pub batch_entry : Format BatchEntryData
batch_entry = record { IsValue = IsBatchEntry; spelling = batch_entry_spelling; at = batch_entry_at; reads = batch_entry_reads }

abbrev pub mac : Format MacData
mac = record { IsValue = IsMac; spelling = mac_spelling; at = mac_at; reads = mac_reads }

-- a count byte within bounds
abbrev pub count_from : ℕ → ℕ → Format ℕ
count_from least most = passing_of (λ n. nat_le least n && nat_le n most) byte

abbrev pub count_to : ℕ → Format ℕ
count_to most = passing_of (λ n. nat_le n most) byte

-- ---- a view change

pub checkpoint_entries_reads : Reads (ascending_of checkpoint_entry_before (count_to 3) checkpoint_entry).IsValue (ascending_of checkpoint_entry_before (count_to 3) checkpoint_entry).spelling checkpoint_entries_at
unfolding checkpoint_entries_at
checkpoint_entries_reads = (ascending_of checkpoint_entry_before (count_to 3) checkpoint_entry).reads

pub batch_entries_reads : (before : BatchEntryData → BatchEntryData → Bool) → Reads (ascending_of before word batch_entry).IsValue (ascending_of before word batch_entry).spelling (batch_entries_at before)
unfolding batch_entries_at
batch_entries_reads before = (ascending_of before word batch_entry).reads

pub macs_reads : Reads (ascending_of mac_before (count_from 1 10) mac).IsValue (ascending_of mac_before (count_from 1 10) mac).spelling macs_at
unfolding macs_at
macs_reads = (ascending_of mac_before (count_from 1 10) mac).reads

abbrev pub checkpoint_entries : Format (List CheckpointEntryData)
checkpoint_entries = record { IsValue = (ascending_of checkpoint_entry_before (count_to 3) checkpoint_entry).IsValue; spelling = (ascending_of checkpoint_entry_before (count_to 3) checkpoint_entry).spelling; at = checkpoint_entries_at; reads = checkpoint_entries_reads }

abbrev pub batch_entries : (BatchEntryData → BatchEntryData → Bool) → Format (List BatchEntryData)
batch_entries before = record { IsValue = (ascending_of before word batch_entry).IsValue; spelling = (ascending_of before word batch_entry).spelling; at = batch_entries_at before; reads = batch_entries_reads before }

abbrev pub change_parts : Format (ℕ × (ℕ × (List CheckpointEntryData × (List BatchEntryData × List BatchEntryData))))
change_parts = both_of long (both_of long (both_of checkpoint_entries (both_of (batch_entries batch_entry_before) (batch_entries named_before))))

pub view_change_reads : Reads IsViewChange view_change_spelling view_change_at
unfolding view_change_at
view_change_reads = made_of change_parts IsViewChange view_change_spelling
    (λ p. record { view = p.0; low = p.1.0; checkpoints = p.1.1.0; prepared = p.1.1.1.0; pre_prepared = p.1.1.1.1 })
    (λ c. (c.view, (c.low, (c.checkpoints, (c.prepared, c.pre_prepared)))))
    (λ p h. (
      record {
        view = h.0;
        low = h.1.0;
        few = leb-true _ _ h.1.1.0.0.1;
        checkpoints = h.1.1.0.1.0;
        checkpoints_ascend = h.1.1.0.1.1;
        prepared_count = h.1.1.1.0.0;
        prepared = h.1.1.1.0.1.0;
        prepared_ascend = h.1.1.1.0.1.1;
        pre_prepared_count = h.1.1.1.1.0;
        pre_prepared = h.1.1.1.1.1.0;
        pre_prepared_ascend = h.1.1.1.1.1.1;
      },
      refl,
    ))
    (λ c h. (
      (
        h.view,
        (
          h.low,
          (
            ((omega (arith, h.few), le-leb _ _ h.few), (h.checkpoints, h.checkpoints_ascend)),
            ((h.prepared_count, (h.prepared, h.prepared_ascend)), (h.pre_prepared_count, (h.pre_prepared, h.pre_prepared_ascend))),
          ),
        ),
      ),
      refl,
    ))

abbrev pub change : Format ViewChangeData
change = record { IsValue = IsViewChange; spelling = view_change_spelling; at = view_change_at; reads = view_change_reads }
