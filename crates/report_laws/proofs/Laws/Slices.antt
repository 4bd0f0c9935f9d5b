-- A segment by pages, from its beginning on, is the segment in one slice: whatever K keeps of the rows,
-- for every report and record buffer.
-- Assumes nothing.
use Rattle.std.specs.Prelude.{◌≡◌, Bool, cond, List, [], ℕ, zero, suc, ◌+◌, ◌*◌, ◌≤◌, ◌<◌, length, take, drop, eqb}
use Rattle.std.proofs.Math.Path.{refl}
use Rattle.std.proofs.Common.{sym, subst, ltb-true, ltb-false, eqb-true, length-take, arith}
use Rattle.std.proofs.Math.Bool.{true, false}
use Rattle.std.proofs.Math.Dec.{ltb}
use Rattle.wal_types.specs.declared.Refusal.TheVariants.{BadBuffer}
use Rattle.wal_types.specs.declared.Version.{Version}
use Rattle.wal_types.specs.Results.VersionFound.{Known}
use Rattle.wal_types.specs.Sizes.{page_size, record_limit, segment_limit}
use Rattle.segment_format.specs.Calls.{read_all}
use Rattle.segment_format.proofs.Laws.Reads.{gives-finds, read_all-gives}
use Rattle.feed_format.specs.Meaning.{empty}
use Rattle.feed_format.specs.Pairing.{good_fresh}
use Rattle.feed_format.proofs.Laws.Same.{fresh-rests}
use Rattle.report_format.specs.Readings.{Reading}
use Rattle.report_format.specs.Adding.{night_limit, Ending, Report, Result, nothing, add_records, add_segment, counted, too_many, report_segment}
use Rattle.report_format.specs.Paging.{going_on, done_with, Turn, Begun, begun, one_more_line, ended_by, begin, page_on, pages_on, cut_into}
use Rattle.report_laws.specs.PageClaims.{Over}
use Rattle.report_laws.proofs.Laws.Pages.{Agrees, Awaits, pages, over-stays, short_leads}

module _ (K : Type 0) (add : List Reading → K → K) (count : K → ℕ) (sums : Version → ℕ → List ℕ → ℕ) (v : Version) (n : ℕ) (s b : List ℕ)
    (small : length s ≤ segment_limit) (least : n * page_size ≤ length s) (most : length s < (n + 1) * page_size) where
  -- by pages, from a beginning on, and in one slice
  abbrev Alike : Begun (Report K) → Result K → Type 0
  Alike x z = Over (Report K) (pages_on K add count (sums v) x.state (cut_into n s) b x.report) z.number z.place z.report

  -- what the law of the pages says
  told : (x : Ending K) (m : ℕ) (r : Report K) → Agrees K add count x m (pages_on K add count (sums v) (going_on good_fresh) (cut_into n s) b r)
      → Alike (begun (Report K) (going_on good_fresh) r) (counted K add count x m)
  told x m r a = record { over = a.over; number = a.number; place = a.place; report = a.report }

  -- a segment that is over before its first page
  already : (p m : ℕ) (r : Report K) (z : Result K) → p ≡ z.number → m ≡ z.place → r ≡ z.report
      → Alike (begun (Report K) (done_with good_fresh p m) r) z
  already p m r z ep em er =
      subst (λ (y : Turn (Report K)). Over (Report K) y z.number z.place z.report)
      (sym (over-stays K add count (sums v) (cut_into n s) (done_with good_fresh p m) b r refl))
      (record { over = refl; number = ep; place = em; report = er })

  -- with a full record buffer, and with a short one
  full-buffer : (r : Report K) → r.number ≡ 0 → record_limit ≤ length b
      → Alike (begun (Report K) (going_on good_fresh) (one_more_line K r))
      (counted K add count (add_records K add count (read_all (sums v) s).records (read_all (sums v) s).end r.kept b) (r.segments + 1))
  full-buffer r e big =
      told _ _ (one_more_line K r)
      (pages K add count (sums v) s n [] s (read_all (sums v) s).end small refl least most good_fresh empty b (one_more_line K r) (read_all (sums v) s).records
      (record { rests = fresh-rests (sums v); fair = (omega arith, omega arith); big = big; stored = refl; clear = refl })
      refl refl refl (gives-finds (sums v) s small (read_all-gives (sums v) s)) (e, refl) b)

  short-buffer : (r : Report K) → r.number ≡ 0 → length b < record_limit
      → Alike (begun (Report K) (going_on good_fresh) (one_more_line K r)) (counted K add count (nothing K add count BadBuffer r.kept b) (r.segments + 1))
  unfolding pages_on page_on cut_into
  short-buffer r e h = by n least most
    where
      fresh_awaits : Awaits K add count (sums v) good_fresh empty
      fresh_awaits = record { rests = fresh-rests (sums v); fair = (omega arith, omega arith); clear = refl; asked = refl; ended = refl }

      by : (m : ℕ) → m * page_size ≤ length s → length s < (m + 1) * page_size
          → Over (Report K) (pages_on K add count (sums v) (going_on good_fresh) (cut_into m s) b (one_more_line K r)) 1 0
          (counted K add count (nothing K add count BadBuffer r.kept b) (r.segments + 1)).report
      by zero k l =
          let a = short_leads K add count (sums v) [] good_fresh empty s b (one_more_line K r) fresh_awaits (omega arith) (omega arith) h (e, refl) in
          record { over = a.over; number = a.number; place = a.place; report = a.report }
      by (suc m) k l =
          let w = length-take page_size s in
          let a = short_leads K add count (sums v) (cut_into m (drop page_size s)) good_fresh empty (take page_size s) b (one_more_line K r) fresh_awaits (omega arith) (omega arith) h (e, refl) in
          record { over = a.over; number = a.number; place = a.place; report = a.report }

  -- THE LAW, whatever is kept: for every report and every record buffer
  pub slices : (r : Report K) → Alike (begin K add count r) (report_segment K add count sums (Known v) s b r)
  unfolding begin report_segment add_segment
  slices r = by (eqb r.number 0) refl (ltb r.segments night_limit)
    where
      by-buffer : (t : Bool) → ltb (length b) record_limit ≡ t → r.number ≡ 0
          → Alike (begun (Report K) (going_on good_fresh) (one_more_line K r))
          (counted K add count (cond t (nothing K add count BadBuffer r.kept b)
          (add_records K add count (read_all (sums v) s).records (read_all (sums v) s).end r.kept b)) (r.segments + 1))
      by-buffer true e k = short-buffer r k (ltb-true (length b) record_limit e)
      by-buffer false e k = full-buffer r k (ltb-false (length b) record_limit e)

      by : (t : Bool) → eqb r.number 0 ≡ t → (u : Bool)
          → Alike
          (cond t (cond u (begun (Report K) (going_on good_fresh) (one_more_line K r)) (begun (Report K) (done_with good_fresh 1 0) (ended_by K 1 0 r)))
          (begun (Report K) (done_with good_fresh r.number r.place) r))
          (cond t (cond u (counted K add count (add_segment K add count sums (Known v) s b r.kept) (r.segments + 1)) (too_many K add count r b))
          (record { number = r.number; place = r.place; report = r; buffer = b }))
      by true e true = by-buffer (ltb (length b) record_limit) refl (eqb-true r.number 0 e)
      by true e false = already 1 0 (ended_by K 1 0 r) (too_many K add count r b) refl refl refl
      by false e u =
          already r.number r.place r (record { number = r.number; place = r.place; report = r; buffer = b }) refl refl refl
