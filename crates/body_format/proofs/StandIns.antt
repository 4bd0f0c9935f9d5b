-- Stand-ins that do not keep demand 2: an invented count, a reader that ends at once, and builders
-- that always say NoRoom, that write nothing, or whose bytes read back but are not the format's.
-- Assumes nothing.
use Rattle.std.proofs.Common.{◌≡◌, refl, false, cond, List, [], ◌∷◌, ◌++◌, ℕ, suc, eqb, ℤ, pos, negsuc, length, take, replicate, get_or, sym, ap, ◌∙◌, arith}
use Rattle.std.proofs.lemmas.List.Edits.{sets}
use Rattle.uvarint.specs.Uvarint.{groups, uvarint, after, read_groups, read_uvarint}
use Rattle.varint.specs.Varint.{zigzag, unzigzag, varint, signed, read_varint}
use Rattle.big_endian.specs.Fixed.{be4, be8, read_be4, read_be8}
use Rattle.wal_types.specs.declared.Refusal.TheVariants.{NoRoom, Short}
use Rattle.wal_types.specs.Terms.{offset}
use Rattle.wal_types.specs.Deltas.{to_bits, int_from_bits, plus, minus}
use Rattle.body_format.specs.Results.CheckAnswer.{CheckAnswer}
use Rattle.body_format.specs.Results.CheckAnswer.{Entries, Refused}
use Rattle.body_format.specs.Results.EntryAnswer.{End}
use Rattle.body_format.specs.Fields.{got, fixed_at, varint_at}
use Rattle.body_format.specs.Entries.{tombstones, body_type_of, Entry, sample_entry, tombstone_entry, row_at, sample_at, tombstone_at, entries_from, entries}
use Rattle.body_format.specs.Reading.{check_body, place_or_end, bad_place, entry_place, read_entry}
use Rattle.body_format.specs.Heads.{delta_bytes, delta_at, head_at, head_bytes}
use Rattle.body_format.specs.Building.{row_bytes, entry_bytes, Outcome, used, refused, start, bad_state, add}
use Rattle.body_format.specs.Calls.{Addition, add_series, add_sample, add_tombstone, add_exemplar, add_metadata, add_histogram, entry_for, list_is_bad, BuildResult, Builder, starter, builder, final_buffer, final_used, Checker, EntryReader, StringReader, HistogramReader, SpanReader, BucketReader, BodyCalls, body_calls, Walks}
use Rattle.body_format.specs.Calls.Walks.{next, done}
use Rattle.body_format.specs.Claims.{Demand2}

-- a body of one tombstone: id 7, from time −1 to 1
pub one_tombstone : List ℕ
one_tombstone = 3 ∷ 0 ∷ 0 ∷ 0 ∷ 0 ∷ 0 ∷ 0 ∷ 0 ∷ 7 ∷ 1 ∷ 2 ∷ []

one_entry : entries tombstones one_tombstone ≡ got (tombstone_entry 7 (negsuc 0) (pos 1) ∷ []) 11
unfolding one_tombstone entries entries_from tombstone_at fixed_at varint_at read_varint signed unzigzag read_uvarint read_groups after read_be8 read_be4
one_entry = refl

one-counted : check_body one_tombstone ≡ Entries 1
unfolding one_tombstone check_body body_type_of
one-counted = rw one_entry

-- a count one too large
abbrev pub one_more_line : CheckAnswer → CheckAnswer
one_more_line (Entries n) = Entries (suc n)
one_more_line (Refused why) = Refused why

-- a checker that answers another count for this body, whatever the other calls do
pub invented : (C : BodyCalls) (n : ℕ) → C.check one_tombstone ≡ Entries n → (n ≡ 1 → ⊥) → Demand2 C → ⊥
invented C n e h d = let same : Entries n ≡ Entries 1 = sym e ∙ d.counts one_tombstone ∙ one-counted in h (cc)

-- a checker that finds no entry in any body
pub always-none : (C : BodyCalls) → ((s : List ℕ) → C.check s ≡ Entries 0) → Demand2 C → ⊥
always-none C none d = invented C 0 (none one_tombstone) (λ z. omega arith) d

-- a checker that counts one too many
pub one_too_many : (C : BodyCalls) → ((s : List ℕ) → C.check s ≡ one_more_line (check_body s)) → Demand2 C → ⊥
one_too_many C many d = invented C 2 (many one_tombstone ∙ ap one_more_line one-counted) (λ z. omega arith) d

-- a reader that ends at once walks no entry
no_walk : (C : BodyCalls) (s : List ℕ) (p : ℕ) (es : List Entry)
    → ((t : List ℕ) (q : ℕ) → C.entry t q ≡ End)
    → Walks C s p es
    → length es ≡ 0
no_walk C s p es ends (next first e w f rest) = absurd (let h = ends s p in let z : ◌≡◌ {A = ℕ} 0 1 = cc in omega arith)
no_walk C s p es ends (done e) = refl

-- and so does not keep the demand
pub always-ends : (C : BodyCalls) → ((s : List ℕ) (p : ℕ) → C.entry s p ≡ End) → Demand2 C → ⊥
unfolding one_tombstone body_type_of
always-ends C ends d =
    let z : ◌≡◌ {A = ℕ} 1 0 = no_walk C one_tombstone 1 _ ends (d.walks 3 _ tombstones _ 11 refl one_entry) in omega arith

-- the addition of that tombstone, to a started body in a buffer of 11 bytes, all 255 before
addition : Addition
addition = add_tombstone 7 (negsuc 0) (pos 1)

eleven : List ℕ
eleven = replicate 11 255

added-there : add (starter eleven 3).buffer 3 1 (entry_for addition) false ≡ used 11
unfolding eleven addition start body_type_of add bad_state entry_bytes be8 be4 varint zigzag uvarint groups
added-there = refl

-- a builder that always says NoRoom
pub always-full : (C : BodyCalls)
    → ((b : List ℕ) (t u : ℕ) (a : Addition) → (C.add b t u a).outcome ≡ refused (NoRoom (offset u)))
    → Demand2 C
    → ⊥
unfolding addition
always-full C full d =
    let b : List ℕ = (starter eleven 3).buffer in
    let e : (C.add b 3 1 addition).outcome ≡ used 11 = ap (λ (r : BuildResult). r.outcome) (d.adds b 3 1 addition) ∙ added-there in
    let f = full b 3 1 addition in
    let z : ◌≡◌ {A = ℕ} 0 1 = cc in
    omega arith

-- a builder that answers as the format says and writes nothing
abbrev pub writes_nothing : Builder
writes_nothing b t u a = record { outcome = add b t u (entry_for a) (list_is_bad a); buffer = b }

nothing-there : check_body (take (final_used writes_nothing 3 (starter eleven 3).buffer 1 (addition ∷ [])) (final_buffer writes_nothing 3 (starter eleven 3).buffer 1 (addition ∷ [])))
    ≡ Refused (Short (offset 9))
unfolding eleven addition final_used final_buffer start body_type_of add bad_state entry_bytes be8 be4 varint zigzag uvarint groups check_body entries entries_from tombstone_at fixed_at varint_at read_varint signed unzigzag read_uvarint read_groups after read_be8 read_be4
nothing-there = refl

pub nothing_down : (C : Checker) (E : EntryReader) (S : StringReader) (H : HistogramReader) (P : SpanReader) (U : BucketReader)
    → Demand2 (record { start = starter; add = writes_nothing; check = C; entry = E; string = S; histogram = H; span = P; bucket = U })
    → ⊥
unfolding addition eleven start body_type_of
nothing_down C E S H P U d =
    let z : ◌≡◌ {A = ℕ} 0 1 =
    cc (sym nothing-there ∙ sym (d.counts _) ∙ (d.back eleven 3 (addition ∷ []) ((omega arith, omega arith, omega arith), tt) refl).0) in
    omega arith

-- a builder of samples that writes the first id less 1 and a first delta of 1, where the format has
-- the id and a delta of 0
abbrev shifted_bytes : Outcome → List ℕ → ℕ → ℕ → ℤ → ℕ → List ℕ
shifted_bytes (used n) b u id time v =
    cond (eqb u 1) (sets b 1 (be8 (minus id 1) ++ (be8 (to_bits time) ++ (delta_bytes 1 ++ (delta_bytes 0 ++ be8 v)))))
    (sets b u (entry_bytes b u (sample_entry id time v)))
shifted_bytes (refused why) b u id time v = b

abbrev pub shifts_first : Builder
shifts_first b t u (add_series id bytes lengths) = builder b t u (add_series id bytes lengths)
shifts_first b t u (add_sample id time v) = record {
  outcome = add b t u (sample_entry id time v) false;
  buffer = shifted_bytes (add b t u (sample_entry id time v) false) b u id time v;
}
shifts_first b t u (add_tombstone id min max) = builder b t u (add_tombstone id min max)
shifts_first b t u (add_exemplar id time v bytes lengths) = builder b t u (add_exemplar id time v bytes lengths)
shifts_first b t u (add_metadata id metric bytes lengths) = builder b t u (add_metadata id metric bytes lengths)
shifts_first b t u (add_histogram k h n l) = builder b t u (add_histogram k h n l)

-- the first sample, of id 7, in a started body of 27 bytes
abbrev fresh : List ℕ
fresh = 2 ∷ replicate 26 0

abbrev seven : Addition
seven = add_sample 7 (pos 0) 0

-- an example that reading back alone does not find it: the sample comes out as it was put in
pub shifted_walks : Walks body_calls (shifts_first fresh 2 1 seven).buffer 1 (entry_for seven ∷ [])
unfolding add bad_state body_type_of entry_bytes row_bytes head_bytes delta_bytes be8 be4 varint zigzag uvarint groups minus plus to_bits int_from_bits read_entry place_or_end entry_place bad_place fixed_at sample_at row_at head_at delta_at varint_at read_varint signed unzigzag read_uvarint read_groups after read_be8 read_be4
shifted_walks = next 27 refl tt tt (done refl)

-- the bytes do: byte 8, the last of the first id, is 7 and not 6
pub shifts_first_lem : (C : BodyCalls) → ((b : List ℕ) (t u : ℕ) (a : Addition) → C.add b t u a ≡ shifts_first b t u a) → Demand2 C → ⊥
unfolding add bad_state body_type_of entry_bytes row_bytes head_bytes delta_bytes be8 be4 varint zigzag uvarint groups minus to_bits int_from_bits
shifts_first_lem C shifted d =
    let z : ◌≡◌ {A = ℕ} 6 7 = ap (λ (r : BuildResult). get_or r.buffer 8 0) (sym (shifted fresh 2 1 seven) ∙ d.adds fresh 2 1 seven) in
    omega arith
