-- The calls on the caller's numbers: pages one after the other lead to the numbers of the report that
-- they lead to. Each call finds in them the report that the last one left.
-- Assumes nothing.
use Rattle.std.specs.Prelude.{◌≡◌, Bool, ◌||◌, ◌&&◌, get_or, take, ltb, leb, eqb}
use Rattle.std.proofs.Math.Path.{refl, ap}
use Rattle.std.proofs.Common.{◌∙◌, arith, length-append, length-take, length-set, List, [], ◌∷◌, ℕ, zero, suc, ◌≤◌, le-leb, leb-true, ltb-true}
use Rattle.std.proofs.Math.Bool.{true, false, cond}
use Rattle.std.proofs.Math.ListN.{length}
use Rattle.wal_types.specs.declared.Version.{Version}
use Rattle.segment_format.proofs.Laws.Lists.{cond_ind}
use Rattle.body_format.specs.Fields.{Field, got, fault}
use Rattle.body_format.specs.Entries.{Entry}
use Rattle.log_format.specs.Replay.{entries_in, is_unknown}
use Rattle.feed_format.specs.declared.GoodFeed.{GoodFeed}
use Rattle.feed_format.specs.Results.PageAnswer.{PageAnswer}
use Rattle.feed_format.specs.Results.PageAnswer.{Taken, Refused as PageRefused}
use Rattle.feed_format.specs.Results.FeedAnswer.{FeedAnswer}
use Rattle.feed_format.specs.Results.FeedAnswer.{RecordOf, More, End, Refused}
use Rattle.feed_format.specs.Pairing.{good_fresh, good_feed_on, good_read_on}
use Rattle.report_format.specs.declared.PageReport.{PageReport}
use Rattle.report_format.specs.Readings.{Reading, readings_of, Line}
use Rattle.report_format.specs.Adding.{Outcome, next, refused, full, Report, add_fields, add_record}
use Rattle.report_format.specs.Lines.{fresh, index_of, note, note_all, with_reading, lines, held, sound, laid}
use Rattle.report_format.specs.Paging.{going_on, done_with, Turn, turn, begun, laid_turn, keeping, ended_by, one_more_line, begin, on_record, on_read, reads_on, on_fed, take_on, page_on, pages_on, pager}
use Rattle.report_format.proofs.Laws.Rows.{lines-length, held-laid, laid-laid}
use Rattle.report_laws.specs.PageClaims.{page_calls, pages_from}

-- ---- a report only grows

note_grows : (id b : ℕ) (ls : List Line) → length ls ≤ length (note id b ls)
unfolding note
note_grows id b ls =
    cond_ind (λ (l : List Line). length ls ≤ length l) (ltb (index_of id ls) (length ls))
    (λ _. omega (arith, length-set ls (index_of id ls) (with_reading b (get_or ls (index_of id ls) (fresh 0)))))
    (λ _. omega (arith, length-append ls (with_reading b (fresh id) ∷ [])))

all_grow : (rs : List Reading) (ls : List Line) → length ls ≤ length (note_all rs ls)
unfolding note_all
all_grow [] ls = omega arith
all_grow (r ∷ rs) ls = omega (arith, note_grows r.id r.bits ls, all_grow rs (note r.id r.bits ls))

-- what a record leads to
abbrev Wide : List Line → Outcome (List Line) → Type 0
Wide ls (next k) = (length ls ≤ length k) × (length k ≤ 256)
Wide ls (refused why) = Unit {0}
Wide ls full = Unit {0}

wide_if : (ls k : List Line) (t : Bool) → leb (length k) 256 ≡ t → length ls ≤ length k → Wide ls (cond t (next k) full)
wide_if ls k true e h = (h, leb-true (length k) 256 e)
wide_if ls k false e h = tt

wide-fields : (x : Field (List Entry)) (ls : List Line) → Wide ls (add_fields (List Line) note_all length x ls)
wide-fields (got es p) ls =
    wide_if ls (note_all (readings_of es) ls) (leb (length (note_all (readings_of es) ls)) 256) refl (all_grow (readings_of es) ls)
wide-fields (fault why) ls = tt

wide-record : (body : List ℕ) (ls : List Line) → length ls ≤ 256 → Wide ls (add_record (List Line) note_all length body ls)
wide-record body ls h = by (is_unknown body)
  where
    by : (t : Bool) → Wide ls (cond t (next ls) (add_fields (List Line) note_all length (entries_in body) ls))
    by true = (omega arith, h)
    by false = wide-fields (entries_in body) ls

-- the numbers of such a report are taken
pub record Fits (r : Report (List Line)) : Type 0 where
  pub room : length r.kept ≤ 256
  pub night : r.segments ≤ 1024
  pub by : (eqb r.number 0 || (eqb r.number 1 || eqb r.number 28)) ≡ true

-- from the report r to the report q
pub record Grows (r q : Report (List Line)) : Type 0 where
  pub more : length r.kept ≤ length q.kept
  pub fits : Fits q

grows_none : (r : Report (List Line)) → Fits r → Grows r r
grows_none r f = record { more = omega arith; fits = f }

abbrev Passed : Report (List Line) → Turn (Report (List Line)) → Type 0
Passed r y = Grows r y.report

record_grows : (o : Outcome (List Line)) (start : ℕ) (f : GoodFeed) (go : Report (List Line) → Turn (Report (List Line))) (r : Report (List Line)) (b : List ℕ)
    → Wide r.kept o → Fits r
    → ((q : Report (List Line)) → Fits q → Passed q (go q))
    → Passed r (on_record (List Line) note_all length o start f go r b)
record_grows (next k) start f go r b w fits ih =
    let q = ih (keeping (List Line) k r) (record { room = w.1; night = fits.night; by = fits.by }) in
    record { more = omega (arith, w.0, q.more); fits = q.fits }
record_grows (refused why) start f go r b w fits ih = grows_none r fits
record_grows full start f go r b w fits ih =
    record { more = omega arith; fits = record { room = fits.room; night = fits.night; by = refl } }

read_grows : (a : FeedAnswer) (f : GoodFeed) (go : Report (List Line) → Turn (Report (List Line))) (r : Report (List Line)) (b : List ℕ)
    → Fits r
    → ((q : Report (List Line)) → Fits q → Passed q (go q))
    → Passed r (on_read (List Line) note_all length a f go r b)
read_grows (RecordOf d) f go r b fits ih =
    record_grows (add_record (List Line) note_all length (take d.length b) r.kept) d.start.0 f go r b (wide-record (take d.length b) r.kept fits.room) fits ih
read_grows More f go r b fits ih = grows_none r fits
read_grows End f go r b fits ih = grows_none r fits
read_grows (Refused why) f go r b fits ih = grows_none r fits

module _ (sum : ℕ → List ℕ → ℕ) where
  reads_grow : (n : ℕ) (page : List ℕ) (f : GoodFeed) (b : List ℕ) (r : Report (List Line)) → Fits r
      → Passed r (reads_on (List Line) note_all length sum n page f b r)
  unfolding reads_on
  reads_grow zero page f b r fits = grows_none r fits
  reads_grow (suc n) page f b r fits =
      read_grows (good_read_on sum f page b).answer (good_read_on sum f page b).feed _ r (good_read_on sum f page b).buffer fits
      (λ q k. reads_grow n page (good_read_on sum f page b).feed (good_read_on sum f page b).buffer q k)

  take_grows : (f : GoodFeed) (page b : List ℕ) (r : Report (List Line)) → Fits r → Passed r (take_on (List Line) note_all length sum f page b r)
  take_grows f page b r fits = by (good_feed_on f page).answer
    where
      by : (a : PageAnswer) → Passed r (on_fed (List Line) note_all length sum a (good_feed_on f page).feed page b r)
      by Taken = reads_grow 32768 page (good_feed_on f page).feed b r fits
      by (PageRefused why) = grows_none r fits

  page_grows : (x : PageReport) (page b : List ℕ) (r : Report (List Line)) → Fits r → Passed r (page_on (List Line) note_all length sum x page b r)
  unfolding page_on
  page_grows x page b r fits = by x.over
    where
      by : (t : Bool) → Passed r (cond t (turn (Report (List Line)) x r b) (take_on (List Line) note_all length sum x.feed page b r))
      by true = grows_none r fits
      by false = take_grows x.feed page b r fits

  -- ---- the calls

  -- a report that fits, laid over the numbers t, is taken and read back
  pub sound-laid : (r : Report (List Line)) (t : List ℕ) → Fits r → sound (laid r t) ≡ true
  unfolding sound laid
  sound-laid r t f = rw (le-leb (length r.kept) 256 f.room, le-leb r.segments 1024 f.night) f.by

  -- one page
  pub one-page : (x : PageReport) (page b : List ℕ) (r : Report (List Line)) (t : List ℕ) → Fits r
      → pager sum x page b (laid r t) ≡ laid_turn (page_on (List Line) note_all length sum x page b r) t
  unfolding pager page_on
  one-page x page b r t f =
      let y : Turn (Report (List Line)) = take_on (List Line) note_all length sum x.feed page b r in
      ap (λ (u : Bool). cond x.over (turn (List ℕ) x (laid r t) b)
      (cond u (laid_turn (take_on (List Line) note_all length sum x.feed page b (held (laid r t))) (laid r t)) (turn (List ℕ) (done_with x.feed 2 0) (laid r t) b)))
      (sound-laid r t f)
      ∙ ap (λ (q : Report (List Line)). cond x.over (turn (List ℕ) x (laid r t) b) (laid_turn (take_on (List Line) note_all length sum x.feed page b q) (laid r t)))
      (held-laid r t f.room)
      ∙ ap (λ (w : List ℕ). cond x.over (turn (List ℕ) x (laid r t) b) (turn (List ℕ) y.state w y.buffer))
      (laid-laid r y.report t (take_grows x.feed page b r f).more)
      ∙ by x.over
    where
      by : (u : Bool)
          → cond u (turn (List ℕ) x (laid r t) b) (laid_turn (take_on (List Line) note_all length sum x.feed page b r) t)
          ≡ laid_turn (cond u (turn (Report (List Line)) x r b) (take_on (List Line) note_all length sum x.feed page b r)) t
      by true = refl
      by false = refl

module _ (sums : Version → ℕ → List ℕ → ℕ) (v : Version) where
  -- pages one after the other
  pub all-pages : (ps : List (List ℕ)) (x : PageReport) (b : List ℕ) (r : Report (List Line)) (t : List ℕ) → Fits r
      → pages_from (page_calls sums) v x ps b (laid r t) ≡ laid_turn (pages_on (List Line) note_all length (sums v) x ps b r) t
  unfolding pages_from pages_on
  all-pages [] x b r t f = refl
  all-pages (page ∷ more) x b r t f =
      let y : Turn (Report (List Line)) = page_on (List Line) note_all length (sums v) x page b r in
      ap (λ (w : Turn (List ℕ)). pages_from (page_calls sums) v w.state more w.buffer w.report) (one-page (sums v) x page b r t f)
      ∙ all-pages more y.state y.buffer y.report t (page_grows (sums v) x page b r f).fits

  -- after a beginning that is over, whatever the numbers
  pub all-over : (ps : List (List ℕ)) (x : PageReport) (b t : List ℕ) → x.over ≡ true
      → pages_from (page_calls sums) v x ps b t ≡ turn (List ℕ) x t b
  unfolding pages_from pager
  all-over [] x b t e = refl
  all-over (page ∷ more) x b t e =
      ap (λ (w : Turn (List ℕ)). pages_from (page_calls sums) v w.state more w.buffer w.report)
      (ap (λ (u : Bool). cond u (turn (List ℕ) x t b)
      (cond (sound t) (laid_turn (take_on (List Line) note_all length (sums v) x.feed page b (held t)) t) (turn (List ℕ) (done_with x.feed 2 0) t b))) e)
      ∙ all-over more x b t e

-- ---- the beginning

both : (a b : Bool) → a && b ≡ true → (a ≡ true) × (b ≡ true)
both true b h = (refl, h)
both false b h = absurd (let z : ◌≡◌ {A = ℕ} 0 1 = cc in omega arith)

pub held_fits : (t : List ℕ) → sound t ≡ true → Fits (held t)
unfolding sound
held_fits t e =
    let x = both (leb (get_or t 0 0) 256) (leb (get_or t 1 0) 1024 && (eqb (get_or t 2 0) 0 || (eqb (get_or t 2 0) 1 || eqb (get_or t 2 0) 28))) e in
    let y = both (leb (get_or t 1 0) 1024) (eqb (get_or t 2 0) 0 || (eqb (get_or t 2 0) 1 || eqb (get_or t 2 0) 28)) x.1 in
    record {
      room = omega (arith, length-take (get_or t 0 0) (lines t), lines-length t);
      night = leb-true (get_or t 1 0) 1024 y.0;
      by = y.1;
    }

pub begin-fits : (r : Report (List Line)) → Fits r → Fits (begin (List Line) note_all length r).report
unfolding begin
begin-fits r f = by (eqb r.number 0) (ltb r.segments 1024) refl
  where
    by : (t u : Bool) → ltb r.segments 1024 ≡ u
        → Fits (cond t (cond u (begun (Report (List Line)) (going_on good_fresh) (one_more_line (List Line) r))
        (begun (Report (List Line)) (done_with good_fresh 1 0) (ended_by (List Line) 1 0 r)))
        (begun (Report (List Line)) (done_with good_fresh r.number r.place) r)).report
    by true true e = record { room = f.room; night = omega (arith, ltb-true r.segments 1024 e); by = f.by }
    by true false e = record { room = f.room; night = f.night; by = refl }
    by false u e = f
