-- The caller's strings written one after another, each after its length.
use Rattle.std.proofs.Common.{◌≡◌, refl, sym, ap, ap₂, ◌∙◌, List, [], ◌∷◌, ◌++◌, ℕ, ◌+◌, ◌/◌, ◌≤◌, ◌<◌, arith, length, get_or, take, drop, set, length-set, drop_of_length-le, length-append}
use Rattle.std.proofs.lemmas.List.Edits.{sets}
use Rattle.std.proofs.Math.Seq.{length-sets}
use Rattle.byte_copy.specs.CopiedLaws.{sets-append, part_length}
use Rattle.byte_copy.specs.Put.{put_at, put_end}
use Rattle.uvarint.specs.Uvarint.{uvarint}
use Rattle.body_format.specs.Building.{string_bytes, strings_bytes, string_list_bytes, cut_strings, total}
use Rattle.body_format.proofs.Laws.Strings.{length_cut, cut_step, total-step}
use Rattle.body_builder.specs.Laws.Putting.{Put, put_first, room_then, put_then}

-- the strings from number i on, whose bytes start at `from`
abbrev rest : List ℕ → List ℕ → ℕ → ℕ → List ℕ
rest strings lengths from i = strings_bytes (cut_strings (drop from strings) (drop i lengths))

-- Once the strings that are left are written to b from `place` on, b is what b₀ is to become, and
-- the place after them is the same.
pub record Laying (strings lengths b₀ : List ℕ) (at : ℕ) (b : List ℕ) (place from i : ℕ) : Type 0 where
  pub inside : i ≤ length lengths
  pub left : from + total (drop i lengths) ≡ length strings
  pub size : length b ≡ length b₀
  pub end : place + length (rest strings lengths from i) ≡ at + length (strings_bytes (cut_strings strings lengths))
  pub same : sets b place (rest strings lengths from i) ≡ sets b₀ at (strings_bytes (cut_strings strings lengths))

pub laying : (strings lengths b : List ℕ) (at : ℕ) → total lengths ≡ length strings → Laying strings lengths b at b at 0 0
laying strings lengths b at e = record { inside = omega arith; left = omega arith; size = refl; end = refl; same = refl }

pub laid : (strings lengths b₀ : List ℕ) (at : ℕ) (b : List ℕ) (place from i : ℕ) → Laying strings lengths b₀ at b place from i → length lengths ≤ i
    → Put b₀ at (strings_bytes (cut_strings strings lengths)) b place
unfolding cut_strings strings_bytes
laid strings lengths b₀ at b place from i l h =
    let none : drop i lengths ≡ [] = drop_of_length-le lengths h in
    let end = rw none at l.end in
    (omega (arith, end), rw none at l.same)

-- one string more
module _ (strings lengths b₀ : List ℕ) (at : ℕ) (b : List ℕ) (place from i : ℕ) (l : Laying strings lengths b₀ at b place from i)
    (h : i < length lengths) (room : at + length (strings_bytes (cut_strings strings lengths)) ≤ length b₀)
    (b₁ : List ℕ) (p : ℕ) (e : p ≡ put_end b place (uvarint (get_or lengths i 0))) (f : b₁ ≡ put_at b place (uvarint (get_or lengths i 0))) where
  n : ℕ
  n = get_or lengths i 0

  string : List ℕ
  string = take n (drop from strings)

  more : List ℕ
  more = rest strings lengths (from + n) (i + 1)

  pub string_inside : from + get_or lengths i 0 ≤ length strings
  string_inside = omega (arith, total-step lengths i h, l.left)

  bytes : rest strings lengths from i ≡ (uvarint n ++ string) ++ more
  unfolding strings_bytes string_bytes n string more
  bytes =
      ap strings_bytes (cut_step strings lengths from i h)
      ∙ ap (λ (k : ℕ). (uvarint k ++ string) ++ more) (part_length strings from n string_inside)

  room₀ : place + length (uvarint n ++ string) ≤ length b
  room₀ = omega (arith, l.end, l.size, ap length bytes, length-append (uvarint n ++ string) more)

  one : Put b place (uvarint n) b₁ p
  unfolding n
  one = put_first b b₁ place p (uvarint n) string room₀ e f

  pub string-room : p + get_or lengths i 0 ≤ length b₁
  unfolding n string
  string-room = omega (arith, room_then b b₁ place p (uvarint n) string room₀ one, part_length strings from n string_inside)

  pub string-laid : (b₂ : List ℕ) → b₂ ≡ sets b₁ p (take (get_or lengths i 0) (drop from strings))
      → Laying strings lengths b₀ at b₂ (p + get_or lengths i 0) (from + get_or lengths i 0) (i + 1)
  unfolding n string more
  string-laid b₂ g =
      let two : Put b₁ p string b₂ (p + n) = (ap (λ (k : ℕ). p + k) (sym (part_length strings from n string_inside)), g) in
      let both : Put b place (uvarint n ++ string) b₂ (p + n) = put_then b b₁ place p (uvarint n) string room₀ b₂ (p + n) one two in
      record {
        inside = omega arith;
        left = omega (arith, total-step lengths i h, l.left);
        size = ap length both.1 ∙ length-sets b place (uvarint n ++ string) ∙ l.size;
        end = omega (arith, both.0, l.end, ap length bytes, length-append (uvarint n ++ string) more);
        same =
            ap₂ (λ (x : List ℕ) (y : ℕ). sets x y more) both.1 both.0
            ∙ sets-append (uvarint n ++ string) more b place
            ∙ ap (sets b place) (sym bytes)
            ∙ l.same;
      }

-- a list: its count, and then the strings
module _ (strings lengths b : List ℕ) (at : ℕ) (room : at + length (string_list_bytes (cut_strings strings lengths)) ≤ length b)
    (b₁ : List ℕ) (p : ℕ) (e : p ≡ put_end b at (uvarint (length lengths / 2))) (f : b₁ ≡ put_at b at (uvarint (length lengths / 2))) where
  listed : string_list_bytes (cut_strings strings lengths) ≡ uvarint (length lengths / 2) ++ strings_bytes (cut_strings strings lengths)
  unfolding string_list_bytes
  listed = ap (λ (k : ℕ). uvarint (k / 2) ++ strings_bytes (cut_strings strings lengths)) (length_cut strings lengths)

  list_room₀ : at + length (uvarint (length lengths / 2) ++ strings_bytes (cut_strings strings lengths)) ≤ length b
  list_room₀ = rw listed at room

  counted : Put b at (uvarint (length lengths / 2)) b₁ p
  counted = put_first b b₁ at p (uvarint (length lengths / 2)) (strings_bytes (cut_strings strings lengths)) list_room₀ e f

  pub list-room : p + length (strings_bytes (cut_strings strings lengths)) ≤ length b₁
  list-room = room_then b b₁ at p (uvarint (length lengths / 2)) (strings_bytes (cut_strings strings lengths)) list_room₀ counted

  pub list-laid : (b₂ : List ℕ) (q : ℕ) → Put b₁ p (strings_bytes (cut_strings strings lengths)) b₂ q → Put b at (string_list_bytes (cut_strings strings lengths)) b₂ q
  list-laid b₂ q g =
      rw listed (put_then b b₁ at p (uvarint (length lengths / 2)) (strings_bytes (cut_strings strings lengths)) list_room₀ b₂ q counted g)

-- a number, a byte, and then a list
module _ (b b₁ : List ℕ) (at p id m : ℕ) (list : List ℕ) (room : at + length (uvarint id ++ (m ∷ list)) ≤ length b)
    (e : p ≡ put_end b at (uvarint id)) (f : b₁ ≡ put_at b at (uvarint id)) where
  numbered : Put b at (uvarint id) b₁ p
  numbered = put_first b b₁ at p (uvarint id) (m ∷ list) room e f

  after : p + length (m ∷ list) ≤ length b₁
  after = room_then b b₁ at p (uvarint id) (m ∷ list) room numbered

  pub byte_room : p < length b₁
  byte_room = omega (arith, after)

  pub byte_then : p + 1 + length list ≤ length (set b₁ p m)
  byte_then = rw (length-set b₁ p m) (omega (arith, after))

  pub byte_laid : (b₂ : List ℕ) (q : ℕ) → Put (set b₁ p m) (p + 1) list b₂ q → Put b at (uvarint id ++ (m ∷ list)) b₂ q
  byte_laid b₂ q g =
      put_then b b₁ at p (uvarint id) (m ∷ list) room b₂ q numbered
      (put_then b₁ (set b₁ p m) p (p + 1) (m ∷ []) list after b₂ q (refl, refl) g)
