-- The claim holds of the format's own calls, for every checksum; and so of any calls that keep the
-- claims: by pages and in one slice give the same.
-- Assumes nothing.
use Rattle.std.specs.Prelude.{◌≡◌, Bool, cond, List, [], ◌∷◌, ◌++◌, ℕ, suc, ◌+◌, ◌*◌, ◌≤◌, ◌<◌}
use Rattle.std.proofs.Math.Path.{refl}
use Rattle.std.proofs.Common.{sym, ap, ◌∙◌, subst, append-nil, arith, length-append, take_at, drop_at}
use Rattle.std.proofs.Math.Bool.{true, false}
use Rattle.std.proofs.Math.ListN.{length}
use Rattle.wal_types.specs.declared.Version.{Version}
use Rattle.wal_types.specs.Results.VersionFound.{Known}
use Rattle.wal_types.specs.Sizes.{page_size, segment_limit}
use Rattle.feed_format.specs.Pairing.{good_fresh}
use Rattle.report_format.specs.Readings.{Line}
use Rattle.report_format.specs.Adding.{Report, Result}
use Rattle.report_format.specs.Lines.{note_all, held, sound, laid}
use Rattle.report_format.specs.Calls.{CallResult, Reporter, by_lines, put, reporter}
use Rattle.report_format.specs.Claims.{Reports}
use Rattle.report_format.specs.Paging.{done_with, Turn, Begun, begun, laid_begun, begin, cut_into, beginner}
use Rattle.report_laws.specs.PageClaims.{PageCalls, page_calls, pages_from, pages_turn, Over, ByPages}
use Rattle.report_laws.proofs.Laws.Slices.{slices}
use Rattle.report_laws.proofs.Laws.Numbers.{all-pages, all-over, held_fits, begin-fits}

module _ (sums : Version → ℕ → List ℕ → ℕ) (v : Version) (n : ℕ) (s b t : List ℕ)
    (small : length s ≤ segment_limit) (least : n * page_size ≤ length s) (most : length s < (n + 1) * page_size) where
  -- by pages, from a beginning on, and in one slice
  abbrev Alike : Begun (List ℕ) → CallResult → Type 0
  Alike x z = Over (List ℕ) (pages_from (page_calls sums) v x.state (cut_into n s) b x.report) z.number z.place z.report

  -- on numbers that a call may have handed out
  on-sound : sound t ≡ true → Alike (laid_begun (begin (List Line) note_all length (held t)) t) (put (by_lines sums (Known v) s b (held t)) t)
  on-sound e =
      let x : Begun (Report (List Line)) = begin (List Line) note_all length (held t) in
      let z : Result (List Line) = by_lines sums (Known v) s b (held t) in
      let k = slices (List Line) note_all length sums v n s b small least most (held t) in
      subst (λ (y : Turn (List ℕ)). Over (List ℕ) y z.number z.place (laid z.report t))
      (sym (all-pages sums v (cut_into n s) x.state b x.report t (begin-fits (held t) (held_fits t e))))
      (record { over = k.over; number = k.number; place = k.place; report = ap (λ (r : Report (List Line)). laid r t) k.report })

  -- and on any other: BadPlace, and nothing changes
  on-unsound : Alike (begun (List ℕ) (done_with good_fresh 2 0) t) (record { number = 2; place = 0; report = t; buffer = b })
  on-unsound =
      subst (λ (y : Turn (List ℕ)). Over (List ℕ) y 2 0 t) (sym (all-over sums v (cut_into n s) (done_with good_fresh 2 0) b t refl))
      (record { over = refl; number = refl; place = refl; report = refl })

  same-slice : Alike (beginner t) (reporter sums (Known v) s b t)
  unfolding beginner reporter
  same-slice = by (sound t) refl
    where
      by : (u : Bool) → sound t ≡ u
          → Alike (cond u (laid_begun (begin (List Line) note_all length (held t)) t) (begun (List ℕ) (done_with good_fresh 2 0) t))
          (cond u (put (by_lines sums (Known v) s b (held t)) t) (record { number = 2; place = 0; report = t; buffer = b }))
      by true e = on-sound e
      by false e = on-unsound

-- THE THEOREM
pub by_pages : (sums : Version → ℕ → List ℕ → ℕ) → ByPages sums (page_calls sums)
by_pages sums = record { same = λ v n s b t small least most. same-slice sums v n s b t small least most }

-- any calls that keep the two claims give the same by pages and in one slice
pub pages-slices : (sums : Version → ℕ → List ℕ → ℕ) (R : Reporter) (C : PageCalls) → Reports sums R → ByPages sums C
    → (v : Version) (n : ℕ) (s b t : List ℕ) → length t ≡ 1284 → length s ≤ segment_limit → n * page_size ≤ length s → length s < (n + 1) * page_size
    → Over (List ℕ) (pages_turn C v (cut_into n s) b t) (R (Known v) s b t).number (R (Known v) s b t).place (R (Known v) s b t).report
pages-slices sums R C one paged v n s b t l small least most =
    subst (λ (z : CallResult). Over (List ℕ) (pages_turn C v (cut_into n s) b t) z.number z.place z.report) (sym (one.any (Known v) s b t l))
    (paged.same v n s b t small least most)

-- ---- any list of pages

-- full pages and then one that is shorter; and their bytes
unfoldable pub Paged : List (List ℕ) → Type 0
Paged [] = ⊥
Paged (page ∷ []) = length page < page_size
Paged (page ∷ next ∷ more) = (length page ≡ page_size) × Paged (next ∷ more)

unfoldable pub joined : List (List ℕ) → List ℕ
joined [] = []
joined (page ∷ more) = page ++ joined more

-- the pages are what their bytes are cut into
cut_of : (ps : List (List ℕ)) → Paged ps
    → (n : ℕ) × (cut_into n (joined ps) ≡ ps) × (n * page_size ≤ length (joined ps)) × (length (joined ps) < (n + 1) * page_size)
unfolding Paged joined cut_into
cut_of [] k = absurd k
cut_of (page ∷ []) k =
    let e = append-nil page in
    (0, ap (λ (p : List ℕ). p ∷ []) e, omega arith, omega (arith, ap length e))
cut_of (page ∷ next ∷ more) k =
    let r = cut_of (next ∷ more) k.1 in
    let w : List ℕ = joined (next ∷ more) in
    let l = length-append page w in (
      suc r.0,
      (λ i. take_at page w page_size k.0 i ∷ (ap (cut_into r.0) (drop_at page w page_size k.0) ∙ r.1) i),
      omega (arith, l, k.0, r.2),
      omega (arith, l, k.0, r.3),
    )

-- so any calls that keep the claim give, on any full pages and a shorter one, what one slice of their
-- bytes gives
pub any-pages : (sums : Version → ℕ → List ℕ → ℕ) (C : PageCalls) → ByPages sums C
    → (v : Version) (ps : List (List ℕ)) (b t : List ℕ) → Paged ps → length (joined ps) ≤ segment_limit
    → Over (List ℕ) (pages_turn C v ps b t) (reporter sums (Known v) (joined ps) b t).number (reporter sums (Known v) (joined ps) b t).place
    (reporter sums (Known v) (joined ps) b t).report
any-pages sums C paged v ps b t k small =
    let s : List ℕ = joined ps in
    let z : CallResult = reporter sums (Known v) s b t in
    let r = cut_of ps k in
    subst (λ (qs : List (List ℕ)). Over (List ℕ) (pages_turn C v qs b t) z.number z.place z.report) r.1
    (paged.same v r.0 s b t small r.2 r.3)
