-- A segment that is added to a report page by page leads to what it leads to in one slice, whatever K
-- keeps of the rows: an induction over the reads of a page and over the pages, along the stream that
-- the feed stands for (feed_format).
-- Assumes nothing.
use Rattle.std.specs.Prelude.{◌≡◌, Bool, true, false, ltb}
use Rattle.std.proofs.Math.Path.{refl, sym, ap, subst}
use Rattle.std.proofs.Common.{◌∙◌, arith, lt-ltb, le-ltb, ltb-true, ltb-false, take-append-drop, List, [], ◌∷◌, ◌++◌, append_assoc, append-nil, ℕ, zero, suc, ◌+◌, ◌*◌, ◌≤◌, ◌<◌}
use Rattle.std.proofs.Math.Bool.{cond}
use Rattle.std.proofs.Math.ListN.{length, take, drop, length-append, length-take, length-drop}
use Rattle.std.proofs.Math.Seq.{take-append_seam}
use Rattle.wal_types.specs.declared.Refusal.{Refusal}
use Rattle.wal_types.specs.declared.Refusal.TheVariants.{BadBuffer}
use Rattle.wal_types.specs.Sizes.{page_size, record_limit, segment_limit}
use Rattle.segment_format.specs.Results.ReadAnswer.{ReadAnswer}
use Rattle.segment_format.specs.Reading.{closed, Found, whole, clean, torn, refused, run, answer_for, buffer_for}
use Rattle.segment_format.specs.Calls.{Delivered, delivered, NoRecord}
use Rattle.segment_format.proofs.Laws.Steps.{find-run}
use Rattle.segment_format.proofs.Laws.Longer.{Stays, stays-run}
use Rattle.segment_format.proofs.Laws.Longer.Stays.{same, by-clean, by-torn}
use Rattle.segment_format.proofs.Laws.Reads.{Finds, found, final}
use Rattle.feed_format.specs.Results.Standing.{Clear}
use Rattle.feed_format.specs.declared.Fed.{Fed}
use Rattle.feed_format.specs.declared.GoodFeed.{GoodFeed}
use Rattle.feed_format.specs.declared.GoodFed.{GoodFed}
use Rattle.feed_format.specs.Results.PageAnswer.{PageAnswer}
use Rattle.feed_format.specs.Results.PageAnswer.{Taken}
use Rattle.feed_format.specs.Results.FeedAnswer.{FeedAnswer}
use Rattle.feed_format.specs.Results.FeedAnswer.{Refused}
use Rattle.feed_format.specs.Feeding.{feed_rule, feed_on, Got, here, read_on}
use Rattle.feed_format.specs.Meaning.{Stream, Out, fed, read, Turn as Passed, turn as passed, takes, feed_turn, feed_meant, gather, front, no_further, found_read, read_meant}
use Rattle.feed_format.specs.Claims.{as_fed, Begins}
use Rattle.feed_format.specs.Pairing.{good_feed, good_feed_on, GoodGot, got_beside}
use Rattle.feed_format.proofs.Laws.Tests.{rule_is}
use Rattle.feed_format.proofs.Laws.AtHand.{read_same}
use Rattle.feed_format.proofs.Laws.Same.{Rests, read-on, feed-on}
use Rattle.feed_format.proofs.Laws.Segment.{answered}
use Rattle.feed_format.proofs.Laws.Pairs.{Gave, Sound, feed_beside, feed-sound, read_beside, read-sound, read-forth}
use Rattle.report_format.specs.declared.PageReport.{PageReport}
use Rattle.report_format.specs.Readings.{Reading}
use Rattle.report_format.specs.Adding.{Outcome, next, refused as unread, full, Ending, Report, add_record, on_outcome, add_records, nothing, counted}
use Rattle.report_format.specs.Paging.{going_on, done_with, Turn, turn, keeping, on_record, on_read, reads_on, on_fed, take_on, page_on, pages_on, cut_into}

-- ---- what is found in some bytes is found in more

stays-whole : {start q : ℕ} {d : List ℕ} {x y : Found} → Stays x y → x ≡ whole start d q → y ≡ whole start d q
stays-whole same e = e
stays-whole by-clean e = absurd (let z : ◌≡◌ {A = ℕ} 0 1 = cc in omega arith)
stays-whole by-torn e = absurd (let z : ◌≡◌ {A = ℕ} 0 1 = cc in omega arith)

stays-refused : {why : Refusal} {x y : Found} → Stays x y → x ≡ refused why → y ≡ refused why
stays-refused same e = e
stays-refused by-clean e = absurd (let z : ◌≡◌ {A = ℕ} 0 1 = cc in omega arith)
stays-refused by-torn e = absurd (let z : ◌≡◌ {A = ℕ} 0 1 = cc in omega arith)

-- ---- what the first read of a reading tells of the reading

module _ {sum : ℕ → List ℕ → ℕ} {s : List ℕ} where
  finds-whole : {p start q : ℕ} {d : List ℕ} {ds : List Delivered} {end : ReadAnswer} → Finds sum s p ds end
      → run sum s p closed ≡ whole start d q
      → (es : List Delivered) × (ds ≡ delivered start (length d) d q ∷ es) × Finds sum s q es end
  finds-whole {start = start} {q = q} {d = d} (found {start = start'} {q = q'} {d = d'} {ds = es} e k) h =
      let z = sym e ∙ h in
      let es' : start' ≡ start = cc in
      let eq : q' ≡ q = cc in
      let ed : d' ≡ d = cc in
      (es, (λ i. delivered (es' i) (length (ed i)) (ed i) (eq i) ∷ es), rw (← eq) k)
  finds-whole (final x e n) h = absurd (subst (λ (y : Found). NoRecord (answer_for y)) (sym e ∙ h) n)

  finds-end : {p : ℕ} {ds : List Delivered} {end : ReadAnswer} (x : Found) → Finds sum s p ds end → run sum s p closed ≡ x → NoRecord (answer_for x)
      → (ds ≡ []) × (end ≡ answer_for x)
  finds-end x (found e k) h n = absurd (subst (λ (y : Found). NoRecord (answer_for y)) (sym h ∙ e) n)
  finds-end x (final y e k) h n = (refl, ap answer_for (sym e ∙ h))

-- the record buffer that a read leaves
abbrev pub leaves : Out → List ℕ
leaves (fed a) = []
leaves (read a b) = b

front_long : (d b : List ℕ) → record_limit ≤ length b → record_limit ≤ length (front d b)
front_long d b h = omega (arith, length-append d (drop (length d) b), length-drop (length d) b)

module _ (K : Type 0) (add : List Reading → K → K) (count : K → ℕ) where
  -- ---- the law's ending

  -- a segment that is over by pages, with what its records lead to in one slice: it is the n-th
  pub record Agrees (x : Ending K) (n : ℕ) (y : Turn (Report K)) : Type 0 where
    pub over : y.state.over ≡ true
    pub number : y.state.number ≡ x.number
    pub place : y.state.place ≡ x.place
    pub report : y.report ≡ (counted K add count x n).report

  -- the records ds and then the end, from the report r on
  abbrev pub Leads : List Delivered → ReadAnswer → Report K → Turn (Report K) → Type 0
  Leads ds end r y = (c : List ℕ) → Agrees (add_records K add count ds end r.kept c) r.segments y

  -- a report that has not ended
  abbrev pub Going : Report K → Type 0
  Going r = (r.number ≡ 0) × (r.place ≡ 0)

  module _ (sum : ℕ → List ℕ → ℕ) where
    -- the pages that follow a call
    abbrev after : List (List ℕ) → Turn (Report K) → Turn (Report K)
    after more y = pages_on K add count sum y.state more y.buffer y.report

    -- a segment that is over stays so
    pub over-stays : (more : List (List ℕ)) (x : PageReport) (b : List ℕ) (r : Report K) → x.over ≡ true
        → pages_on K add count sum x more b r ≡ turn (Report K) x r b
    unfolding pages_on page_on
    over-stays [] x b r e = refl
    over-stays (page ∷ more) x b r e =
        ap (after more) (ap (λ (t : Bool). cond t (turn (Report K) x r b) (take_on K add count sum x.feed page b r)) e)
        ∙ over-stays more x b r e

    over_leads : (more : List (List ℕ)) (f : GoodFeed) (n p : ℕ) (b : List ℕ) (r : Report K) (x : Ending K) (m : ℕ)
        → n ≡ x.number → p ≡ x.place → r ≡ (counted K add count x m).report
        → Agrees x m (after more (turn (Report K) (done_with f n p) r b))
    over_leads more f n p b r x m en ep er =
        subst (Agrees x m) (sym (over-stays more (done_with f n p) b r refl))
        (record { over = refl; number = en; place = ep; report = er })

    -- ---- a record

    record_leads : (more : List (List ℕ)) (o : Outcome K) (start : ℕ) (f : GoodFeed) (go : Report K → Turn (Report K)) (r : Report K) (b c : List ℕ)
        (on : K → Ending K)
        → Going r
        → ((k : K) → Agrees (on k) r.segments (after more (go (keeping K k r))))
        → Agrees (on_outcome K add count o start on r.kept c) r.segments (after more (on_record K add count o start f go r b))
    record_leads more (next k) start f go r b c on g ih = ih k
    record_leads more (unread why) start f go r b c on g ih =
        over_leads more f _ _ b r _ _ refl refl (λ i. record { kept = r.kept; segments = r.segments; number = g.0 i; place = g.1 i })
    record_leads more full start f go r b c on g ih = over_leads more f _ _ b _ _ _ refl refl refl

    -- a read that ends the segment
    stop_leads : (more : List (List ℕ)) (x : Found) → NoRecord (answer_for x) → (f : GoodFeed) (go : Report K → Turn (Report K)) (r : Report K) (b : List ℕ)
        → Going r
        → Leads [] (answer_for x) r (after more (on_read K add count (as_fed (answer_for x)) f go r b))
    unfolding add_records
    stop_leads more (whole start d q) n f go r b g c = absurd n
    stop_leads more clean n f go r b g c =
        over_leads more f _ _ b r _ _ refl refl (λ i. record { kept = r.kept; segments = r.segments; number = g.0 i; place = g.1 i })
    stop_leads more (torn start) n f go r b g c =
        over_leads more f _ _ b r _ _ refl refl (λ i. record { kept = r.kept; segments = r.segments; number = g.0 i; place = g.1 i })
    stop_leads more (refused why) n f go r b g c =
        over_leads more f _ _ b r _ _ refl refl (λ i. record { kept = r.kept; segments = r.segments; number = g.0 i; place = g.1 i })

    -- ---- the reads of a page

    -- a feed at rest in the stream t, and a record buffer that has the bytes of the open record
    pub record Ready (f : GoodFeed) (t : Stream) (b : List ℕ) : Type 0 where
      pub rests : Rests sum f.state t
      pub fair : Sound f
      pub big : record_limit ≤ length b
      pub stored : take (length t.stored) b ≡ t.stored
      pub clear : t.standing ≡ Clear

    -- ---- a page that is taken

    rule_taken : (t : Stream) (n : ℕ) → t.standing ≡ Clear → t.asked ≡ true → t.ended ≡ false → n ≤ page_size → length t.bytes + n ≤ segment_limit
        → feed_rule t.standing (length t.bytes) t.ended t.asked n ≡ Taken
    rule_taken t n c a e h k =
        (λ i. feed_rule (c i) (length t.bytes) t.ended t.asked n)
        ∙ rule_is (length t.bytes) t.ended t.asked n false false false true (le-ltb page_size n h) (le-ltb segment_limit (length t.bytes + n) k) e a

    -- a feed that awaits a page, in the stream t
    pub record Awaits (f : GoodFeed) (t : Stream) : Type 0 where
      pub rests : Rests sum f.state t
      pub fair : Sound f
      pub clear : t.standing ≡ Clear
      pub asked : t.asked ≡ true
      pub ended : t.ended ≡ false

    -- the feed after a page that is taken
    abbrev pub turned : GoodFeed → List ℕ → GoodFeed
    turned f page = good_feed (feed_on f.state page).state f.good

    pub takes-page : (f : GoodFeed) (t : Stream) (page : List ℕ) → Awaits f t → length page ≤ page_size → length t.bytes + length page ≤ segment_limit
        → (good_feed_on f page ≡ record { feed = turned f page; answer = Taken }) × Rests sum (turned f page).state (takes t page)
    takes-page f t page w fits room =
        let y : Fed = feed_on f.state page in
        let e : feed_meant t page ≡ feed_turn Taken t page =
        ap (λ (a : PageAnswer). feed_turn a t page) (rule_taken t (length page) w.clear w.asked w.ended fits room) in
        let k = feed-on sum w.rests page in
        let out : y.answer ≡ Taken = ap taken (k.0 ∙ ap (λ (z : Passed). z.out) e) in (
          feed_beside f w.fair page ∙ ap (λ (a : PageAnswer). record { feed = turned f page; answer = a }) out,
          subst (λ (z : Passed). Rests sum y.state z.after) e k.1,
        )
      where
        taken : Out → PageAnswer
        taken (fed a) = a
        taken (read a c) = Taken

    -- ---- a short record buffer

    -- the first read is refused
    short-reads : (n : ℕ) (more : List (List ℕ)) (f : GoodFeed) (t : Stream) (page b : List ℕ) (r : Report K)
        → Rests sum f.state t → Sound f → length b < record_limit → Going r
        → Agrees (nothing K add count BadBuffer r.kept b) r.segments (after more (reads_on K add count sum (suc n) page f b r))
    unfolding reads_on
    short-reads n more f t page b r m fair h g =
        let o : Got = read_on sum f.state page b in
        let k = read-on sum m page b (λ w. absurd (omega arith)) (ltb (length b) record_limit) refl in
        let e : read_meant sum t b ≡ passed t (read (Refused BadBuffer) b) = rw (lt-ltb (length b) record_limit h) in
        let out : read o.answer o.buffer ≡ read (Refused BadBuffer) b = k.0 ∙ ap (λ (y : Passed). y.out) e in
        let x : Ending K = nothing K add count BadBuffer r.kept b in
        let P : FeedAnswer → GoodFeed → List ℕ → Type 0 =
        λ a h c. Agrees x r.segments (after more (on_read K add count a h (reads_on K add count sum n page h c) r c)) in
        subst (λ (y : GoodGot). P y.answer y.feed y.buffer) (sym (read_beside f fair sum page b))
        (subst (λ (y : Out). P (answered y) (got_beside o f.good).feed (leaves y)) (sym out)
        (over_leads more (got_beside o f.good).feed _ _ b r x r.segments refl refl
        (λ i. record { kept = r.kept; segments = r.segments; number = g.0 i; place = g.1 i })))

    -- and so the segment is over with its first page
    pub short_leads : (more : List (List ℕ)) (f : GoodFeed) (t : Stream) (page b : List ℕ) (r : Report K)
        → Awaits f t → length page ≤ page_size → length t.bytes + length page ≤ segment_limit → length b < record_limit → Going r
        → Agrees (nothing K add count BadBuffer r.kept b) r.segments (after more (take_on K add count sum f page b r))
    short_leads more f t page b r w fits room h g =
        let k = takes-page f t page w fits room in
        let x : Ending K = nothing K add count BadBuffer r.kept b in
        subst (λ (z : GoodFed). Agrees x r.segments (after more (on_fed K add count sum z.answer z.feed page b r))) (sym k.0)
        (short-reads 32767 more (turned f page) (takes t page) page b r k.1 (feed-sound f w.fair page) h g)

    module _ (s : List ℕ) where
      -- from a feed that awaits a page, after the bytes u of s, the pages `more` lead on
      abbrev pub Next : List (List ℕ) → List ℕ → ReadAnswer → Type 0
      Next more u end =
          (f : GoodFeed) (t : Stream) (b : List ℕ) (r : Report K) (ds : List Delivered) → Ready f t b
          → t.asked ≡ true → t.ended ≡ false → t.bytes ≡ u
          → Finds sum s t.place ds end
          → Going r
          → Leads ds end r (pages_on K add count sum (going_on f) more b r)

      -- and so do at most n reads of the page at hand and then these pages; each record takes 7 bytes
      abbrev Reads : ℕ → List (List ℕ) → ReadAnswer → Type 0
      Reads n more end =
          (f : GoodFeed) (t : Stream) (b : List ℕ) (r : Report K) (ds : List Delivered) → Ready f t b → Begins t s
          → f.state.base + f.state.size < here f.state + 7 * n
          → Finds sum s t.place ds end
          → Going r
          → (t.ended ≡ false → Next more t.bytes end)
          → Leads ds end r (after more (reads_on K add count sum n t.page f b r))

      module _ (n : ℕ) (more : List (List ℕ)) (end : ReadAnswer) (ih : Reads n more end) (t : Stream) (d b : List ℕ) (r : Report K) (ds : List Delivered)
          (big : record_limit ≤ length b) (clear : t.standing ≡ Clear) (begins : Begins t s) (finds : Finds sum s t.place ds end) (going : Going r)
          (on : t.ended ≡ false → Next more t.bytes end) where
        -- with the feed g after a read that gave x
        abbrev Goes : Out → GoodFeed → Type 0
        Goes x g =
            Leads ds end r (after more (on_read K add count (answered x) g (reads_on K add count sum n t.page g (leaves x)) r (leaves x)))

        -- the reading of s ends so
        stops : (x : Found) → NoRecord (answer_for x) → run sum s t.place closed ≡ x → (g : GoodFeed) (go : Report K → Turn (Report K)) (c : List ℕ)
            → Leads ds end r (after more (on_read K add count (as_fed (answer_for x)) g go r c))
        stops x k e g go c =
            let z = finds-end x finds e k in
            subst (λ (es : List Delivered). Leads es end r (after more (on_read K add count (as_fed (answer_for x)) g go r c))) (sym z.0)
            (subst (λ (a : ReadAnswer). Leads [] a r (after more (on_read K add count (as_fed (answer_for x)) g go r c))) (sym z.1)
            (stop_leads more x k g go r c going))

        -- no further answer: the end of s, or the next page
        on_none : (x : Found) → run sum t.bytes t.place closed ≡ x → NoRecord (answer_for x) → (e : Bool) → t.ended ≡ e → (g : GoodFeed)
            → Rests sum g.state (no_further e t d b (as_fed (answer_for x))).after
            → Sound g
            → Goes (no_further e t d b (as_fed (answer_for x))).out g
        on_none x h k true e g m f =
            let z : s ≡ t.bytes = begins.1 ∙ ap (λ (v : List ℕ). t.bytes ++ v) (begins.2 e) ∙ append-nil t.bytes in
            stops x k (ap (λ (u : List ℕ). run sum u t.place closed) z ∙ h) g _ _
        on_none x h k false e g m f =
            on e g _ (front d b) r ds
            (record { rests = m; fair = f; big = front_long d b big; stored = take-append_seam d (drop (length d) b); clear = clear })
            refl e refl finds going

        -- the rest of the page after a read that left c
        abbrev rest : GoodFeed → List ℕ → Report K → Turn (Report K)
        rest g c = reads_on K add count sum n t.page g c

        -- a record with the bytes l
        on-record : (start q : ℕ) (l : List ℕ) (es : List Delivered) → Finds sum s q es end → (g : GoodFeed)
            → Rests sum g.state (found_read t d b (whole start l q)).after
            → Sound g
            → g.state.base + g.state.size < here g.state + 7 * n
            → Leads (delivered start (length l) l q ∷ es) end r
            (after more (on_record K add count (add_record K add count l r.kept) start g (rest g (front l b)) r (front l b)))
        unfolding add_records
        on-record start q l es later g m f room c =
            record_leads more (add_record K add count l r.kept) start g (rest g (front l b)) r (front l b)
            (buffer_for (whole start l q) c) (λ u. add_records K add count es end u (buffer_for (whole start l q) c)) going
            (λ k. ih g _ (front l b) (keeping K k r) es
            (record { rests = m; fair = f; big = front_long l b big; stored = refl; clear = clear })
            begins room later going on (buffer_for (whole start l q) c))

        on-found : (x : Found) → run sum t.bytes t.place closed ≡ x → (g : GoodFeed) (p : ℕ)
            → Rests sum g.state (found_read t d b x).after
            → Sound g
            → Gave (answered (found_read t d b x).out) p g.state
            → g.state.base + g.state.size < p + 7 * suc n
            → Goes (found_read t d b x).out g
        on-found (whole start l q) h g p m f gave room =
            let z : run sum s t.place closed ≡ whole start l q =
            ap (λ (u : List ℕ). run sum u t.place closed) begins.1 ∙ stays-whole (stays-run sum t.bytes begins.0 t.place closed) h in
            let y = finds-whole finds z in
            let body : take (length l) (front l b) ≡ l = take-append_seam l (drop (length l) b) in
            let P : List Delivered → List ℕ → Type 0 =
            λ es w. Leads es end r (after more (on_record K add count (add_record K add count w r.kept) start g (rest g (front l b)) r (front l b))) in
            subst (λ (es : List Delivered). P es (take (length l) (front l b))) (sym y.1)
            (subst (λ (w : List ℕ). P (delivered start (length l) l q ∷ y.0) w) (sym body)
            (on-record start q l y.0 y.2 g m f (omega (arith, gave.0, gave.1, room))))
        on-found clean h g p m f gave room = on_none clean h tt t.ended refl g m f
        on-found (torn start) h g p m f gave room = on_none (torn start) h tt t.ended refl g m f
        on-found (refused why) h g p m f gave room =
            let z : run sum s t.place closed ≡ refused why =
            ap (λ (u : List ℕ). run sum u t.place closed) begins.1 ∙ stays-refused (stays-run sum t.bytes begins.0 t.place closed) h in
            stops (refused why) tt z g (rest g (front d b)) (front d b)

      -- one read more: it gives what is meant by the stream, and goes forward in the page
      reads_suc : (n : ℕ) (more : List (List ℕ)) (end : ReadAnswer) → Reads n more end → Reads (suc n) more end
      unfolding reads_on
      reads_suc n more end ih f t b r ds ready begins room finds going on =
          let d : List ℕ = gather sum t.bytes t.place closed in
          let x : Found = run sum t.bytes t.place closed in
          let m = ready.rests in
          let page : List ℕ = t.page in
          let o : Got = read_on sum f.state page b in
          let g : GoodFeed = (got_beside o f.good).feed in
          let short : length t.bytes ≤ segment_limit =
          omega (arith, ap length m.hand.bytes_are, length-append m.hand.before page, m.hand.base_is, m.hand.size_is, m.hand.limit) in
          let inside : t.place ≤ length t.bytes =
          omega (arith, ap length m.hand.bytes_are, length-append m.hand.before page, m.hand.base_is, m.hand.size_is, m.spot.place_le) in
          let e : read_meant sum t b ≡ found_read t d b x =
          rw (le-ltb (length b) record_limit ready.big, find-run sum t.bytes t.place (length b) short ready.big inside) in
          let k = read-on sum m page b (λ _. (λ _. refl, ready.stored)) (ltb (length b) record_limit) refl in
          let out : read o.answer o.buffer ≡ (found_read t d b x).out = k.0 ∙ ap (λ (y : Passed). y.out) e in
          let rests : Rests sum o.state (found_read t d b x).after = subst (λ (y : Passed). Rests sum o.state y.after) e k.1 in
          let forth = read-forth sum page f.state b in
          let at-hand = read_same sum page f.state b in
          let gave : Gave (answered (found_read t d b x).out) (here f.state) o.state =
          subst (λ (y : Out). Gave (answered y) (here f.state) o.state) out forth.gave in
          let P : FeedAnswer → GoodFeed → List ℕ → Type 0 =
          λ a h c. Leads ds end r (after more (on_read K add count a h (reads_on K add count sum n page h c) r c)) in
          subst (λ (y : GoodGot). P y.answer y.feed y.buffer) (sym (read_beside f ready.fair sum page b))
          (subst (λ (y : Out). P (answered y) g (leaves y)) (sym out)
          (on-found n more end ih t d b r ds ready.big ready.clear begins finds going on x refl g (here f.state) rests
          (read-sound f ready.fair sum page b) gave (omega (arith, room, at-hand.base_same, at-hand.size_same))))

      reads : (n : ℕ) (more : List (List ℕ)) (end : ReadAnswer) → Reads n more end
      reads zero more end f t b r ds ready begins room finds going on = absurd (omega (arith, room, ready.rests.spot.at_le))
      reads (suc n) more end f t b r ds ready begins room finds going on =
          reads_suc n more end (reads n more end) f t b r ds ready begins room finds going on

      -- ---- the pages

      -- a page, behind which the bytes v of s follow: none if it is not full
      page_leads : (more : List (List ℕ)) (end : ReadAnswer) (page v : List ℕ) (f : GoodFeed) (t : Stream) (b : List ℕ) (r : Report K) (ds : List Delivered)
          → Ready f t b → t.asked ≡ true → t.ended ≡ false
          → length s ≤ segment_limit → length page ≤ page_size
          → s ≡ (t.bytes ++ page) ++ v
          → (length page < page_size → v ≡ [])
          → (page_size ≤ length page → Next more (t.bytes ++ page) end)
          → Finds sum s t.place ds end
          → Going r
          → Leads ds end r (after more (take_on K add count sum f page b r))
      page_leads more end page v f t b r ds ready asked ended small fits is last on finds going =
          let k = takes-page f t page (record { rests = ready.rests; fair = ready.fair; clear = ready.clear; asked = asked; ended = ended }) fits
          (omega (arith, small, ap length is, length-append (t.bytes ++ page) v, length-append t.bytes page)) in
          subst (λ (z : GoodFed). Leads ds end r (after more (on_fed K add count sum z.answer z.feed page b r))) (sym k.0)
          (reads page_size more end (turned f page) (takes t page) b r ds
          (record { rests = k.1; fair = feed-sound f ready.fair page; big = ready.big; stored = ready.stored; clear = ready.clear })
          (v, is, λ h. last (ltb-true (length page) page_size h))
          (omega (arith, k.1.hand.size_le)) finds going
          (λ h. on (ltb-false (length page) page_size h)))

      -- the pages of what is left of s
      pub pages : (n : ℕ) (u v : List ℕ) (end : ReadAnswer) → length s ≤ segment_limit → s ≡ u ++ v
          → n * page_size ≤ length v → length v < (n + 1) * page_size
          → Next (cut_into n v) u end
      unfolding pages_on page_on cut_into
      pages zero u v end small is least most f t b r ds ready asked ended bytes finds going =
          page_leads [] end v [] f t b r ds ready asked ended small (omega arith)
          (is ∙ ap (λ (w : List ℕ). w ++ v) (sym bytes) ∙ sym (append-nil (t.bytes ++ v)))
          (λ _. refl) (λ h. absurd (omega arith)) finds going
      pages (suc n) u v end small is least most f t b r ds ready asked ended bytes finds going =
          let page : List ℕ = take page_size v in
          let later : List ℕ = drop page_size v in
          let size : length page ≡ page_size = omega (arith, length-take page_size v, least) in
          let left = length-drop page_size v in
          let whole' : s ≡ (t.bytes ++ page) ++ later =
          is ∙ ap (λ (w : List ℕ). w ++ v) (sym bytes) ∙ ap (λ (w : List ℕ). t.bytes ++ w) (sym (take-append-drop page_size v))
          ∙ sym (append_assoc t.bytes page later) in
          page_leads (cut_into n later) end page later f t b r ds ready asked ended small (omega arith) whole'
          (λ h. absurd (omega arith)) (λ _. pages n (t.bytes ++ page) later end small whole' (omega arith) (omega arith)) finds going
