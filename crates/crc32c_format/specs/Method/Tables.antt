-- Method, laws: the entries of the tables; and a table that is filled entry by entry (`Filled`,
-- which contracts of private functions cite).
use Rattle.std.specs.Prelude.{◌≡◌, refl, List, map, ℕ, zero, suc, ◌+◌, ◌-◌, ◌*◌, ◌/◌, ◌%◌, ◌^◌, ◌<◌, ◌≤◌, length, get_or, set}
use Rattle.std.proofs.Common.{sym, ap, ap₂, ◌∙◌, zero-add, le_of_suc-le-suc, not-suc-le-zero, arith, length-set, ext_get_or}
use Rattle.std.proofs.Math.Nat.{zero-mod}
use Rattle.std.specs.Int.Bits.{bit_xor}
use Rattle.std.proofs.lemmas.List.{length-map}
use Rattle.std.proofs.Math.ListN.{get_or-map}
use Rattle.crc32c_format.specs.Crc.{bit_steps}
use Rattle.crc32c_format.specs.Table.{up_from, table_entry, table_of, slice_table}
use Rattle.crc32c_format.specs.Method.Steps.{bit_steps-add, bit_steps_zero, bit_steps-split}
use Rattle.crc32c_format.specs.Method.Lists.{set_more}

length-up_from : (a n : ℕ) → length (up_from a n) ≡ n
unfolding up_from
length-up_from a zero = refl
length-up_from a (suc n) = ap suc (length-up_from (suc a) n)

get_or-up_from : (a n i : ℕ) → i < n → get_or (up_from a n) i 0 ≡ a + i
unfolding up_from
get_or-up_from a zero i h = absurd (not-suc-le-zero h)
get_or-up_from a (suc n) zero h = omega arith
get_or-up_from a (suc n) (suc i) h = get_or-up_from (suc a) n i (le_of_suc-le-suc h) ∙ omega arith

pub length-table_of : (w n : ℕ) → length (table_of w n) ≡ n
unfolding table_of
length-table_of w n = length-map (up_from 0 n) (table_entry w) ∙ length-up_from 0 n

entry_zero : (w : ℕ) → table_entry w 0 ≡ 0
unfolding table_entry
entry_zero w = ap (bit_steps (w * (0 / 2 ^ w + 1))) (zero-mod (2 ^ w)) ∙ bit_steps_zero (w * (0 / 2 ^ w + 1))

pub table_of-at : (w n i : ℕ) → i < n → get_or (table_of w n) i 0 ≡ table_entry w i
unfolding table_of
table_of-at w n i h =
    ap (get_or (map (table_entry w) (up_from 0 n)) i) (sym (entry_zero w))
    ∙ get_or-map (table_entry w) (up_from 0 n) i 0
    ∙ ap (table_entry w) (get_or-up_from 0 n i h ∙ zero-add i)

-- the entry x of row k
pub slice_at : (k x : ℕ) → x < 256 → k < 8 → get_or slice_table (k * 256 + x) 0 ≡ bit_steps (8 + 8 * k) x
unfolding table_entry
slice_at k x hx hk = table_of-at 8 2048 (k * 256 + x) (omega arith) ∙ ap₂ bit_steps (omega arith) (omega arith)

-- ---- filling a table entry by entry

-- the first n entries are the slice table's
abbrev pub Filled : List ℕ → ℕ → Type 0
Filled t n = (length t ≡ 2048) × ((i : ℕ) → i < n → get_or t i 0 ≡ table_entry 8 i)

pub filled_more : (t : List ℕ) (n : ℕ) {v : ℕ} → n < 2048 → v ≡ table_entry 8 n → Filled t n → Filled (set t n v) (n + 1)
filled_more t n {v} h e f = (length-set t n v ∙ f.0, set_more (table_entry 8) t n (omega arith) e f.1)

pub filled_to : (t : List ℕ) (n m : ℕ) → m ≤ n → Filled t n → Filled t m
filled_to t n m h f = (f.0, λ i l. f.1 i (omega arith))

pub filled-all : (t : List ℕ) → Filled t 2048 → t ≡ slice_table
filled-all t f =
    ext_get_or 0 t slice_table (f.0 ∙ sym (length-table_of 8 2048)) (λ i h. f.1 i (omega arith) ∙ sym (table_of-at 8 2048 i (omega arith)))

-- the first row
pub entry_first : (i : ℕ) → i < 256 → bit_steps 8 i ≡ table_entry 8 i
unfolding table_entry
entry_first i h = ap₂ bit_steps (omega arith) (omega arith)

-- each later entry is eight bit steps on from the one above it
pub entry_next : (t : List ℕ) (i : ℕ) {e : ℕ} → 256 ≤ i → Filled t i → e ≡ get_or t (i - 256) 0 → bit_xor (get_or t (e % 256) 0) (e / 256) ≡ table_entry 8 i
unfolding table_entry bit_steps
entry_next t i {e} h f g =
    let row : e ≡ bit_steps (8 * ((i - 256) / 256 + 1)) ((i - 256) % 256) = g ∙ f.1 (i - 256) (omega arith) in
    let first : get_or t (e % 256) 0 ≡ bit_steps 8 (e % 256) = f.1 (e % 256) (omega arith) ∙ sym (entry_first (e % 256) (omega arith)) in
    ap (λ (x : ℕ). bit_xor x (e / 256)) first
    ∙ sym (bit_steps-split 8 0 e)
    ∙ ap (bit_steps 8) row
    ∙ sym (bit_steps-add (8 * ((i - 256) / 256 + 1)) 8 ((i - 256) % 256))
    ∙ ap₂ bit_steps {x = 8 * ((i - 256) / 256 + 1) + 8} {y = 8 * (i / 256 + 1)} (omega arith) (omega arith)
