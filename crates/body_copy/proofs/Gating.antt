-- An addition of an entry with strings of another body: its size, the gate's answer, and what is
-- then written. `whole` is the entry around the bytes of its list of strings.
use Rattle.wal_types.specs.declared.Refusal.{Refusal}
use Rattle.wal_types.specs.Terms.{offset}
use Rattle.body_format.specs.Fields.{strings_at}
use Rattle.body_format.specs.Entries.{type_byte, Entry, body_type_for}
use Rattle.body_format.specs.Building.{string_list_bytes, entry_bytes, add, add_bytes}
use Rattle.std.specs.Prelude.{Option, Some, None, is_none, unwrap_or, IfSome, IsErrAnd}
use Rattle.std.proofs.Common.{arith, ◌≡◌, sym, ap, ◌∙◌, Bool, false, List, ℕ, ◌+◌, ◌≤◌, length}
use Rattle.body_builder.specs.Results.Added.{Added, Next}
use Rattle.body_builder.specs.Results.Gate.{Gate}
use Rattle.body_builder.specs.Results.Gate.{Open, Shut}
use Rattle.body_builder.specs.Answers.{added_of}
use Rattle.body_builder.specs.Sizes.{gate_for, decided}
use Rattle.body_builder.specs.Laws.Putting.{Put}
use Rattle.body_builder.specs.Laws.Additions.{Measures, exact, Opened, admitted, turned_away, finished}
use Rattle.body_copy.specs.Taking.{strings_taken, bad_strings}
use Rattle.body_copy.specs.Forms.{list_from}
use Rattle.body_copy.proofs.Copying.{good-list}

-- what the gate was asked, of the entry that `make` makes of the k strings from place p of s on
pub record Asked (b : List ℕ) (t u : ℕ) (make : List (List ℕ) → Entry) (s : List ℕ) (k p : ℕ) (whole : List ℕ → List ℕ) (head want : ℕ) (size : Option ℕ) (r : Gate) : Type 0 where
  pub shape : entry_bytes b u (make (strings_taken (strings_at k s p))) ≡ whole (string_list_bytes (strings_taken (strings_at k s p)))
  pub want_is : want ≡ type_byte (body_type_for (make (strings_taken (strings_at k s p))))
  pub head_is : head + length (list_from k s p) ≡ length (whole (list_from k s p))
  pub size_is : (is_none size ≡ bad_strings k (strings_at k s p)) × IfSome size (λ n. n ≡ head + length (list_from k s p))
  pub gate : r ≡ gate_for (decided b t u want (is_none size) (unwrap_or size 0))

some_size : (size : Option ℕ) (m : ℕ) → is_none size ≡ false → IfSome size (λ n. n ≡ m) → unwrap_or size 0 ≡ m
some_size (Some n) m h k = k
some_size None m h k = let z : ◌≡◌ {A = ℕ} 0 1 = cc in absurd (omega arith)

module _ (b : List ℕ) (t u : ℕ) (make : List (List ℕ) → Entry) (s : List ℕ) (k p : ℕ) (whole : List ℕ → List ℕ) (head want : ℕ) (size : Option ℕ) (r : Gate)
    (a : Asked b t u make s k p whole head want size r) where
  entry : Entry
  entry = make (strings_taken (strings_at k s p))

  is_bad : Bool
  is_bad = bad_strings k (strings_at k s p)

  bytes : bad_strings k (strings_at k s p) ≡ false → entry_bytes b u (make (strings_taken (strings_at k s p))) ≡ whole (list_from k s p)
  bytes h = a.shape ∙ ap whole (good-list s k p h)

  sized : Measures size is_bad (length (entry_bytes b u entry))
  unfolding is_bad entry
  sized = (a.size_is.0, λ h. exact (some_size size _ (a.size_is.0 ∙ h) a.size_is.1 ∙ a.head_is ∙ sym (ap length (bytes h))))

  asked : r ≡ gate_for (decided b t u (type_byte (body_type_for entry)) (is_none size) (unwrap_or size 0))
  unfolding entry
  asked = rw (← a.want_is) a.gate

  module _ (h : r ≡ Open) where
    opens : Opened b t u entry is_bad
    opens = admitted b t u entry is_bad size sized r asked h

    pub open-room : u + length (whole (list_from k s p)) ≤ length b
    unfolding is_bad entry
    open-room = rw (← bytes opens.list) opens.room

    pub open_done : (d : List ℕ) (next : ℕ) → Put b u (whole (list_from k s p)) d next
        → (Next (record { tag = t; used = offset next }) ≡ added_of t (add b t u (make (strings_taken (strings_at k s p))) (bad_strings k (strings_at k s p))))
        × (d ≡ add_bytes (add b t u (make (strings_taken (strings_at k s p))) (bad_strings k (strings_at k s p))) b u (make (strings_taken (strings_at k s p))))
    unfolding is_bad entry
    open_done d next w = finished b t u entry is_bad d next opens (rw (bytes opens.list) w)

  pub shut_done : {why : Refusal} → r ≡ Shut why → (x : Added) → IsErrAnd x (λ y. y ≡ why)
      → (x ≡ added_of t (add b t u (make (strings_taken (strings_at k s p))) (bad_strings k (strings_at k s p))))
      × (b ≡ add_bytes (add b t u (make (strings_taken (strings_at k s p))) (bad_strings k (strings_at k s p))) b u (make (strings_taken (strings_at k s p))))
  unfolding is_bad entry
  shut_done h x e = turned_away b t u entry is_bad size sized r asked h x e
