-- The stand-ins for a report by pages (docs/CLAIMS.md): calls that would pass if the claim were hollow.
-- None of them keeps it, for every checksum.
-- Assumes nothing.
use Rattle.std.proofs.Math.Path.{◌≡◌, refl, sym, ap, subst}
use Rattle.std.proofs.Common.{◌∙◌, le-ltb, List, [], ◌∷◌, append-nil, ℕ, zero, suc, ◌+◌, ◌≤◌, arith}
use Rattle.std.proofs.Math.Bool.{Bool, true, false}
use Rattle.std.specs.Prelude.{cond, drop, replicate, ltb}
use Rattle.std.proofs.Math.ListN.{length, get_or}
use Rattle.std.proofs.lemmas.List.{length-replicate}
use Rattle.std.proofs.Math.Seq.{take_all}
use Rattle.wal_types.specs.declared.Refusal.TheVariants.{BadBuffer, Torn}
use Rattle.wal_types.specs.declared.Version.{Version}
use Rattle.wal_types.specs.declared.Version.TheVariants.{One}
use Rattle.wal_types.specs.Results.VersionFound.{Known}
use Rattle.wal_types.specs.Terms.{offset}
use Rattle.wal_types.specs.Sizes.{page_size, record_limit}
use Rattle.segment_format.specs.Results.ReadAnswer.{Refused as SliceRefused}
use Rattle.segment_format.specs.Good.{none_yet, fair}
use Rattle.segment_format.specs.Reading.{closed, opened, torn, run}
use Rattle.segment_format.specs.Writing.{fragment, fragment_bytes}
use Rattle.segment_format.specs.Calls.{Contents, read_all}
use Rattle.segment_format.proofs.Laws.Fragments.{length-fragment_bytes}
use Rattle.segment_format.proofs.Laws.Steps.{run_past, find-run}
use Rattle.segment_format.proofs.Laws.Reads.{final, finds-gives, gives-read_all}
use Rattle.segment_format.proofs.Laws.RoundTrip.{run_of}
use Rattle.feed_format.specs.declared.FeedState.{FeedState}
use Rattle.feed_format.specs.declared.GoodFeed.{GoodFeed}
use Rattle.feed_format.specs.declared.GoodFed.{GoodFed}
use Rattle.feed_format.specs.Results.FeedAnswer.{FeedAnswer}
use Rattle.feed_format.specs.Results.FeedAnswer.{More, End, Refused}
use Rattle.feed_format.specs.Feeding.{fresh, turned as turnedState, sound as fedSound, feed_rule, feed_on, Got, got, walk, read_on}
use Rattle.feed_format.specs.Meaning.{Stream, empty, Out, read, Turn as Passed, takes, gather, front, no_further, found_read, read_meant}
use Rattle.feed_format.specs.Pairing.{good_fresh, good_feed, good_feed_on, GoodGot, got_beside, good_read_on}
use Rattle.feed_format.proofs.Laws.Same.{Rests, fresh-rests, read-on}
use Rattle.feed_format.proofs.Laws.Segment.{answered}
use Rattle.feed_format.proofs.Laws.Pairs.{feed-sound, read_beside}
use Rattle.report_format.specs.declared.PageReport.{PageReport}
use Rattle.report_format.specs.Readings.{Line}
use Rattle.report_format.specs.Adding.{Report, nothing, add_records, add_segment, report_segment}
use Rattle.report_format.specs.Lines.{note_all, held, sound, laid}
use Rattle.report_format.specs.Calls.{reporter}
use Rattle.report_format.specs.Paging.{going_on, done_with, Turn, turn, Begun, begun, laid_turn, begin, on_read, reads_on, on_fed, take_on, page_on, cut_into, beginner, pager, one_more_line, pages_on}
use Rattle.report_format.proofs.StandIns.{room, room-length, log_of, id_row, id_row-log, filled, NumberOf, through}
use Rattle.report_format.proofs.Laws.Rows.{held-laid}
use Rattle.report_laws.specs.PageClaims.{PageCalls, pages_from, pages_turn, ByPages}
use Rattle.report_laws.proofs.Laws.Pages.{turned, takes-page, leaves}
use Rattle.report_laws.proofs.Laws.Slices.{slices}
use Rattle.report_laws.proofs.Laws.Numbers.{Fits, sound-laid, one-page, held_fits, begin-fits}

-- ---- the stand-ins

-- one that does not count the segment
abbrev pub uncounted : (Version → ℕ → List ℕ → ℕ) → PageCalls
uncounted sums = record { begin = λ t. begun (List ℕ) (beginner t).state t; page = λ v. pager (sums v) }

-- one that goes on where it is over, as after a 257th id
abbrev pub goes_on : (Version → ℕ → List ℕ → ℕ) → PageCalls
goes_on sums = record { begin = beginner; page = λ v x. pager (sums v) (going_on x.feed) }

-- one that forgets at the end of a page where it is, and so the record that goes over it
abbrev forgotten : PageReport → PageReport
forgotten x = record { feed = good_fresh; over = x.over; number = x.number; place = x.place }

abbrev pub forgets : (Version → ℕ → List ℕ → ℕ) → PageCalls
forgets sums = record { begin = beginner; page = λ v x. pager (sums v) (forgotten x) }

-- one that lets a 257th id through
abbrev pub lets_through : (Version → ℕ → List ℕ → ℕ) → PageCalls
lets_through sums = record {
  begin = beginner;
  page = λ v x page b t.
      cond x.over (turn (List ℕ) x t b)
      (cond (sound t) (laid_turn (take_on (List Line) note_all (λ ls. 0) (sums v) x.feed page b (held t)) t) (turn (List ℕ) (done_with x.feed 2 0) t b));
}

-- ---- the reports that they are tried on

blank : List ℕ
blank = 0 ∷ 0 ∷ 0 ∷ 0 ∷ replicate 1280 0

-- ended by a 257th id in the record at 5
ended : List ℕ
ended = 0 ∷ 1 ∷ 28 ∷ 5 ∷ replicate 1280 0

-- ---- they are refused

module _ (sums : Version → ℕ → List ℕ → ℕ) where
  -- an empty segment, with no record buffer, is counted
  pub uncounted-pages : ByPages sums (uncounted sums) → ⊥
  unfolding blank pages_from cut_into beginner begin pager sound laid good_feed_on fair feed_on fedSound feed_rule reads_on good_read_on read_on reporter report_segment add_segment
  uncounted-pages h =
      let e = ap (λ (t : List ℕ). get_or t 1 0) (h.same One 0 [] [] blank (omega arith) (omega arith) (omega arith)).report in
      let z : ◌≡◌ {A = ℕ} 0 1 = e in
      omega arith

  -- .. and is answered 28 where the report has ended with that
  pub goes_on-pages : ByPages sums (goes_on sums) → ⊥
  unfolding ended pages_from cut_into beginner begin pager sound laid good_feed_on fair feed_on fedSound feed_rule reads_on good_read_on read_on reporter report_segment add_segment
  goes_on-pages h =
      let e = (h.same One 0 [] [] ended (omega arith) (omega arith) (omega arith)).number in
      let z : ◌≡◌ {A = ℕ} 1 28 = e in
      omega arith

-- ---- a record that goes over a page's end

-- a first fragment that fills its page
most : List ℕ
most = replicate 32761 0

most-length : length most ≡ 32761
unfolding most
most-length = length-replicate 32761 zero

nothing_left : (n : ℕ) (l : List ℕ) → length l ≤ n → drop n l ≡ []
nothing_left zero [] h = refl
nothing_left zero (a ∷ l) h = absurd (omega arith)
nothing_left (suc n) [] h = refl
nothing_left (suc n) (a ∷ l) h = nothing_left n l (omega arith)

module _ (sum : ℕ → List ℕ → ℕ) where
  opens : List ℕ
  opens = fragment_bytes sum (fragment 2 most)

  opens-length : length opens ≡ 32768
  unfolding opens
  opens-length = omega (arith, length-fragment_bytes sum 2 most, most-length)

  -- the bytes end inside it
  opens-torn : run sum opens 0 closed ≡ torn 0
  unfolding opens
  opens-torn =
      run_of sum (fragment_bytes sum (fragment 2 most)) [] [] 0 closed false most (sym (append-nil (fragment_bytes sum (fragment 2 most)))) refl
      (omega (arith, most-length)) (omega (arith, most-length)) tt
      ∙ run_past sum (fragment_bytes sum (fragment 2 most)) (0 + (7 + length most)) (opened 0 most) (omega (arith, length-fragment_bytes sum 2 most))

  opens-read : read_all sum opens ≡ record { records = []; end = SliceRefused (Torn (offset 0)) }
  opens-read =
      let e = gives-read_all sum opens (finds-gives sum opens (omega (arith, opens-length)) (final (torn 0) opens-torn tt)) in
      λ i. record { records = sym e.0 i; end = sym e.1 i }

  opens-pages : cut_into 1 opens ≡ opens ∷ [] ∷ []
  unfolding cut_into
  opens-pages =
      λ i. take_all 32768 opens (omega (arith, opens-length)) i ∷ nothing_left 32768 opens (omega (arith, opens-length)) i ∷ []

  -- its first page asks for the next
  abbrev first : GoodFeed
  first = turned (List Line) note_all length sum good_fresh opens

  abbrev first_stream : Stream
  first_stream = takes empty opens

  first_asks : (n : ℕ) (r : Report (List Line)) → Rests sum first.state first_stream
      → (reads_on (List Line) note_all length sum (suc n) opens first room r).state.over ≡ false
  unfolding reads_on
  first_asks n r m =
      let d : List ℕ = gather sum opens 0 closed in
      let o : Got = read_on sum first.state opens room in
      let e : read_meant sum first_stream room ≡ found_read first_stream d room (torn 0) =
      rw (le-ltb (length room) record_limit room-length, find-run sum opens 0 (length room) (omega (arith, opens-length)) room-length (omega arith), opens-torn) in
      let g : found_read first_stream d room (torn 0) ≡ no_further false first_stream d room (Refused (Torn (offset 0))) =
      ap (λ (u : Bool). no_further u first_stream d room (Refused (Torn (offset 0)))) (le-ltb (length opens) page_size (omega (arith, opens-length))) in
      let out : read o.answer o.buffer ≡ read More (front d room) =
      (read-on sum m opens room (λ _. (λ _. refl, refl)) (ltb (length room) record_limit) refl).0 ∙ ap (λ (y : Passed). y.out) (e ∙ g) in
      let P : FeedAnswer → GoodFeed → List ℕ → Type 0 =
      λ a h c. (on_read (List Line) note_all length a h (reads_on (List Line) note_all length sum n opens h c) r c).state.over ≡ false in
      subst (λ (y : GoodGot). P y.answer y.feed y.buffer) (sym (read_beside first (feed-sound good_fresh (omega arith, omega arith) opens) sum opens room))
      (subst (λ (y : Out). P (answered y) (got_beside o first.good).feed (leaves y)) (sym out) refl)

  opens_asks : (r : Report (List Line)) → (take_on (List Line) note_all length sum good_fresh opens room r).state.over ≡ false
  opens_asks r =
      let k = takes-page (List Line) note_all length sum good_fresh empty opens
      (record { rests = fresh-rests sum; fair = (omega arith, omega arith); clear = refl; asked = refl; ended = refl })
      (omega (arith, opens-length)) (omega (arith, opens-length)) in
      subst (λ (z : GoodFed). (on_fed (List Line) note_all length sum z.answer z.feed opens room r).state.over ≡ false) (sym k.0)
      (first_asks 32767 r k.1)

  -- an empty page of its own is answered 0, or 1 with a short record buffer
  abbrev empty_fed : FeedState
  empty_fed = turnedState fresh 0

  empty-read : (n : ℕ) (b : List ℕ) (r : Report (List Line))
      → (reads_on (List Line) note_all length sum (suc n) [] (good_feed empty_fed none_yet) b r).state.number ≤ 2
  unfolding fair fedSound reads_on good_read_on read_on walk
  empty-read n b r = by (ltb (length b) record_limit)
    where
      number : Got → ℕ
      number o =
          (on_read (List Line) note_all length o.answer (got_beside o none_yet).feed
          (reads_on (List Line) note_all length sum n [] (got_beside o none_yet).feed o.buffer) r o.buffer).state.number

      by : (u : Bool) → number (cond u (got empty_fed (Refused BadBuffer) b) (got empty_fed End b)) ≤ 2
      by true = omega arith
      by false = omega arith

  empty-taken : (b : List ℕ) (r : Report (List Line)) → (take_on (List Line) note_all length sum good_fresh [] b r).state.number ≤ 2
  unfolding good_feed_on fair feed_on fedSound feed_rule
  empty-taken b r = empty-read 32767 b r

  -- .. and 2 on other numbers than a report's
  empty_small : (x : PageReport) (b t : List ℕ) → x.over ≡ false → (pager sum (forgotten x) [] b t).state.number ≤ 2
  unfolding pager
  empty_small x b t e = subst (λ (o : Bool). (cond o (turn (List ℕ) (forgotten x) t b) tried).state.number ≤ 2) (sym e) (by (sound t))
    where
      taken : Turn (List ℕ)
      taken = laid_turn (take_on (List Line) note_all length sum good_fresh [] b (held t)) t

      tried : Turn (List ℕ)
      tried = cond (sound t) taken (turn (List ℕ) (done_with good_fresh 2 0) t b)

      by : (u : Bool) → (cond u taken (turn (List ℕ) (done_with good_fresh 2 0) t b)).state.number ≤ 2
      by true = empty-taken b (held t)
      by false = omega arith

module _ (sums : Version → ℕ → List ℕ → ℕ) where
  abbrev cut : List ℕ
  cut = opens (sums One)

  -- in one slice it is Torn
  cut-slice : (reporter sums (Known One) cut room blank).number ≡ 12
  unfolding blank reporter sound report_segment add_segment add_records
  cut-slice =
      ap (λ (u : Bool). (cond u (nothing (List Line) note_all length BadBuffer [] room)
      (add_records (List Line) note_all length (read_all (sums One) cut).records (read_all (sums One) cut).end [] room)).number)
      (le-ltb (length room) record_limit room-length)
      ∙ ap (λ (c : Contents). (add_records (List Line) note_all length c.records c.end [] room).number) (opens-read (sums One))

  -- the report after the beginning
  abbrev one : Report (List Line)
  one = record { kept = []; segments = 1; number = 0; place = 0 }

  cut-begun : beginner blank ≡ begun (List ℕ) (going_on good_fresh) (laid one blank)
  unfolding blank beginner begin sound laid
  cut-begun = refl

  cut-first : (pager (sums One) (going_on good_fresh) cut room (laid one blank)).state.over ≡ false
  unfolding page_on
  cut-first =
      ap (λ (y : Turn (List ℕ)). y.state.over)
      (one-page (sums One) (going_on good_fresh) cut room one blank (record { room = omega arith; night = omega arith; by = refl }))
      ∙ opens_asks (sums One) one

  -- the second page, which is empty, is not
  pub forgets-pages : ByPages sums (forgets sums) → ⊥
  unfolding pages_from
  forgets-pages h =
      let e = (h.same One 1 cut room blank (omega (arith, opens-length (sums One))) (omega (arith, opens-length (sums One))) (omega (arith, opens-length (sums One)))).number in
      let f : (pages_turn (forgets sums) One (cut ∷ [] ∷ []) room blank).state.number ≡ 12 =
      ap (λ (ps : List (List ℕ)). (pages_turn (forgets sums) One ps room blank).state.number) (sym (opens-pages (sums One))) ∙ e ∙ cut-slice in
      let g : (pages_from (forgets sums) One (going_on good_fresh) (cut ∷ [] ∷ []) room (laid one blank)).state.number ≡ 12 =
      ap (λ (x : Begun (List ℕ)). (pages_from (forgets sums) One x.state (cut ∷ [] ∷ []) room x.report).state.number) (sym cut-begun) ∙ f in
      let y : Turn (List ℕ) = pager (sums One) (going_on good_fresh) cut room (laid one blank) in
      let z = empty_small (sums One) y.state y.buffer y.report cut-first in
      omega (arith, g, z)

-- ---- a record with a 257th id, in a report with 256 series

module _ (sums : Version → ℕ → List ℕ → ℕ) where
  abbrev log : List ℕ
  log = log_of (sums One) id_row

  -- the report after the beginning
  abbrev begun256 : Report (List Line)
  begun256 = one_more_line (List Line) (held filled)

  begun-fits : Fits begun256
  unfolding filled begin sound
  begun-fits = begin-fits (held filled) (held_fits filled refl)

  -- it is let through by pages as in one slice
  log-pages : (take_on (List Line) note_all (λ ls. 0) (sums One) good_fresh log room begun256).state.number ≡ 0
  unfolding filled begin pages_on page_on cut_into report_segment add_segment
  log-pages =
      let e = (slices (List Line) note_all (λ ls. 0) sums One 0 log room (omega (arith, id_row-log (sums One))) (omega arith) (omega (arith, id_row-log (sums One))) (held filled)).number in
      let f : (take_on (List Line) note_all (λ ls. 0) (sums One) good_fresh log room begun256).state.number ≡ NumberOf sums (λ ls. 0) (held filled).kept (read_all (sums One) log) =
      rw (le-ltb (length room) record_limit room-length) at e in
      f ∙ (through sums).0

  log-slice : (reporter sums (Known One) log room filled).number ≡ 28
  unfolding filled reporter sound report_segment add_segment
  log-slice =
      ap (λ (u : Bool). (cond u (nothing (List Line) note_all length BadBuffer (held filled).kept room)
      (add_records (List Line) note_all length (read_all (sums One) log).records (read_all (sums One) log).end (held filled).kept room)).number)
      (le-ltb (length room) record_limit room-length)
      ∙ (through sums).1

  pub lets_through-pages : ByPages sums (lets_through sums) → ⊥
  unfolding filled pages_from cut_into beginner begin sound
  lets_through-pages h =
      let e = (h.same One 0 log room filled (omega (arith, id_row-log (sums One))) (omega arith) (omega (arith, id_row-log (sums One)))).number in
      let t : List ℕ = laid begun256 filled in
      let given : Bool → Report (List Line) → ℕ =
      λ u r. (cond u (laid_turn (take_on (List Line) note_all (λ ls. 0) (sums One) good_fresh log room r) t) (turn (List ℕ) (done_with good_fresh 2 0) t room)).state.number in
      let f : given (sound t) (held t) ≡ 0 =
      ap (λ (u : Bool). given u (held t)) (sound-laid (sums One) begun256 filled begun-fits)
      ∙ ap (λ (r : Report (List Line)). given true r) (held-laid begun256 filled begun-fits.room)
      ∙ log-pages in
      let z : ◌≡◌ {A = ℕ} 0 28 = sym f ∙ e ∙ log-slice in
      omega arith
