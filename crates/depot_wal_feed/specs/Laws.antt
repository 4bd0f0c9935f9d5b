-- Laws of the numbers of a state: whether they are one, and that what is stored reads back.
-- Assumes nothing.
use Rattle.std.specs.Prelude.{◌≡◌, true, false, List, ℕ, ◌/◌, ◌≤◌, ◌<◌, get_or, set, eqb}
use Rattle.std.proofs.Common.{sym, ◌∙◌, arith, le-leb, le-ltb, lt-ltb, eq-eqb, ne_eqb}
use Rattle.std.proofs.Math.Path.{ap}
use Rattle.std.proofs.lemmas.Bool.{lt-leb}
use Rattle.std.proofs.lemmas.List.{set-get_or}
use Rattle.wal_types.specs.declared.Version.{Version}
use Rattle.wal_types.specs.declared.Refusal.TheVariants.{BadPlace}
use Rattle.feed_format.specs.declared.GoodFeed.{GoodFeed}
use Rattle.feed_format.specs.declared.GoodFed.{GoodFed}
use Rattle.feed_format.specs.declared.GoodFeedRead.{GoodFeedRead}
use Rattle.feed_format.specs.Results.PageAnswer.{Refused as PageRefused}
use Rattle.feed_format.specs.Results.FeedAnswer.{Refused}
use Rattle.feed_format.specs.Pairing.{good_feed_on, GoodGot, good_read_on}
use Rattle.feed_format.proofs.Laws.Pairs.{GoodHands, GoodSame, good-same}
use Rattle.depot_wal_feed.specs.Numbers.{stored, stored_place, pair_of, version_in, state_of, marked, known, page_out, read_code, read_out, page_call, feed_page, read_call, feed_read}

-- ---- whether numbers are a state, by their version

module _ (s : List ℕ) where
  pub known-one : get_or s 9 0 ≡ 1 → known s ≡ marked s
  unfolding known
  known-one h = rw (eq-eqb (get_or s 9 0) 1 h)

  pub known_two : get_or s 9 0 ≡ 2 → known s ≡ marked s
  unfolding known
  known_two h = rw (ne_eqb (get_or s 9 0) 1 (λ e. omega arith), eq-eqb (get_or s 9 0) 2 h)

-- ---- the calls

module _ (s page : List ℕ) where
  -- numbers that are a state
  pub page-told : (g : GoodFeed) (r : GoodFed) → known s ≡ true → g ≡ state_of s → r ≡ good_feed_on g page → page_call s r ≡ feed_page s page
  unfolding feed_page
  page-told g r h eg er = rw h (ap (page_call s) (er ∙ ap (λ (f : GoodFeed). good_feed_on f page) eg))

  -- and others
  pub page-unknown : known s ≡ false → record { code = 2; out = page_out (PageRefused BadPlace) (pair_of s); state = s } ≡ feed_page s page
  unfolding feed_page
  page-unknown h = rw h

module _ (sums : Version → ℕ → List ℕ → ℕ) (s page b : List ℕ) where
  abbrev sum : ℕ → List ℕ → ℕ
  sum = sums (version_in s)

  -- numbers that are a state
  pub read_is : (g : GoodFeed) → known s ≡ true → g ≡ state_of s → read_call s (good_read_on sum g page b) ≡ feed_read sums s page b
  unfolding feed_read
  read_is g h eg = rw h (ap (λ (f : GoodFeed). read_call s (good_read_on sum f page b)) eg)

  -- a read leaves the page at hand, so its two numbers stay
  place-stored : (f g : GoodFeed) → f ≡ state_of s → GoodSame f g → stored_place g s ≡ stored g s
  place-stored f g ef h =
      let eb : get_or s 0 0 ≡ g.state.base = sym (h.0 ∙ ap (λ (x : GoodFeed). x.state.base) ef) in
      let es : get_or s 1 0 ≡ g.state.size = sym (h.1 ∙ ap (λ (x : GoodFeed). x.state.size) ef) in
      let e0 : set s 0 g.state.base ≡ s = ap (λ (n : ℕ). set s 0 n) (sym eb) ∙ set-get_or s 0 0 in
      let e1 : set s 1 g.state.size ≡ s = ap (λ (n : ℕ). set s 1 n) (sym es) ∙ set-get_or s 1 0 in
      sym (ap (λ (l : List ℕ). stored_place g l) (ap (λ (l : List ℕ). set l 1 g.state.size) e0 ∙ e1))

  pub read_told : (g : GoodFeed) (r : GoodFeedRead) (c : List ℕ)
      → known s ≡ true
      → g ≡ state_of s
      → GoodHands g page sum b r c
      → record { code = read_code r.answer; out = read_out r.answer r.feed.good; state = stored_place r.feed s; buffer = c } ≡ feed_read sums s page b
  read_told g r c h eg er =
      let x : GoodGot = good_read_on sum g page b in
      (λ i. record {
        code = read_code (er.0 i).answer;
        out = read_out (er.0 i).answer (er.0 i).feed.good;
        state = stored_place (er.0 i).feed s;
        buffer = er.1 i;
      }) ∙ (λ i. record {
        code = read_code x.answer;
        out = read_out x.answer x.feed.good;
        state = place-stored g x.feed eg (good-same sum page g b) i;
        buffer = x.buffer;
      }) ∙ read_is g h eg

  pub read-unknown : known s ≡ false → record { code = 2; out = read_out (Refused BadPlace) (pair_of s); state = s; buffer = b } ≡ feed_read sums s page b
  unfolding feed_read
  read-unknown h = rw h

-- ---- laws of the definitions that no proof of a function needs any more

module _ (s : List ℕ) where
  -- no refusal stands
  pub clear-marked : get_or s 3 0 < 8 → marked s ≡ eqb (get_or s 6 0) 0
  unfolding marked
  clear-marked h = rw (lt-ltb (get_or s 3 0) 8 h)

  -- 1 and 2 cannot stand
  pub low_unmarked : 8 ≤ get_or s 3 0 → get_or s 3 0 < 24 → marked s ≡ false
  unfolding marked
  low_unmarked h k = rw (le-ltb (get_or s 3 0) 8 h, lt-leb 24 (get_or s 3 0) k, ne_eqb (get_or s 3 0 / 8) 13 (λ e. omega arith))

  -- 3 to 10 can
  pub firm-marked : 24 ≤ get_or s 3 0 → get_or s 3 0 < 88 → marked s ≡ true
  unfolding marked
  firm-marked h k = rw (le-ltb (get_or s 3 0) 8 (omega arith), le-leb 24 (get_or s 3 0) h, lt-ltb (get_or s 3 0) 88 k)

  -- of the others 13 can
  pub hollow_marked : 88 ≤ get_or s 3 0 → marked s ≡ eqb (get_or s 3 0 / 8) 13
  unfolding marked
  hollow_marked k = rw (le-ltb (get_or s 3 0) 8 (omega arith), le-leb 24 (get_or s 3 0) (omega arith), le-ltb (get_or s 3 0) 88 k)

  pub known-none : (get_or s 9 0 ≡ 1 → ⊥) → (get_or s 9 0 ≡ 2 → ⊥) → known s ≡ false
  unfolding known
  known-none h k = rw (ne_eqb (get_or s 9 0) 1 h, ne_eqb (get_or s 9 0) 2 k)
