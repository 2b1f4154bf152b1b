-- Rows and locks as contracts see them, and as they are kept.
use Rattle.std.proofs.Common.{◌≡◌, ℕ, Bool, true, false, cond, ◌&&◌, if◌then◌else◌, ◌++◌, List, [], ◌∷◌, map, ℤ, Some, None, refl, ap, sym, ◌∙◌}
use Rattle.std.specs.Prelude.{fold, find, option_map}
use Rattle.std.specs.Cmp.Lexicographic.{nat_list_eq_equiv}
use Rattle.std.proofs.lemmas.Grind.{flat_map-append, fold-append}
use Rattle.sb_log.specs.declared.entries.Entry.{Entry}
use Rattle.sb_log.specs.declared.entries.Op.{Op}
use Rattle.sb_log.specs.declared.requests.Row.{Row}
use Rattle.sb_model.specs.Rows.{same_int, row_after}
use Rattle.sb_model.specs.Sides.{Bytes, same_name, ops_of, ops_of_entry}
use Rattle.sb_model.specs.Transactions.{Key}
use Rattle.sb_rows.specs.Inside.{table_row, key_lock}
use Rattle.sb_rows.specs.Keyed.{value_in}
use Rattle.sb_rows.specs.RowsAndLocks.{TableRow, KeepsOtherKeys, row_in, lock_in, AppliesAll, AreRowsOf}
use Rattle.sb_rows.proofs.Lookups.{same_itself}

pub row_in-map : (es : List (Key × Row)) (t : Bytes) (k : ℤ) → row_in (map table_row es) t k ≡ value_in es t k
row_in-map [] t k = refl
row_in-map (e ∷ es) t k = by (same_name e.0.table t && same_int e.0.key k) ∙ ap (cond (same_name e.0.table t && same_int e.0.key k) (Some e.1)) (row_in-map es t k)
  where
    by : (b : Bool) → option_map (λ r. r.row) (cond b (Some (table_row e)) (find (λ r. same_name r.table t && same_int r.key k) (map table_row es))) ≡ cond b (Some e.1) (row_in (map table_row es) t k)
    by true = refl
    by false = refl

pub lock_in-map : (es : List (Key × ℕ)) (t : Bytes) (k : ℤ) → lock_in (map key_lock es) t k ≡ value_in es t k
lock_in-map [] t k = refl
lock_in-map (e ∷ es) t k = by (same_name e.0.table t && same_int e.0.key k) ∙ ap (cond (same_name e.0.table t && same_int e.0.key k) (Some e.1)) (lock_in-map es t k)
  where
    by : (b : Bool) → option_map (λ l. l.tx) (cond b (Some (key_lock e)) (find (λ l. same_name l.table t && same_int l.key k) (map key_lock es))) ≡ cond b (Some e.1) (lock_in (map key_lock es) t k)
    by true = refl
    by false = refl

-- a value that is put for a key is its holder, and the others stay
abbrev pub Puts : Bytes → ℤ → ℕ → List (Key × ℕ) → List (Key × ℕ) → Type 0
Puts table key tx old new = (t : Bytes) (k : ℤ) → value_in new t k ≡ (if same_name table t && same_int key k then Some tx else value_in old t k)

module _ (table : Bytes) (key : ℤ) (tx : ℕ) (old new : List (Key × ℕ)) (put : Puts table key tx old new) where
  pub lock_in-put : lock_in (map key_lock new) table key ≡ Some tx
  lock_in-put =
      lock_in-map new table key
      ∙ put table key
      ∙ ap (λ b. if b && same_int key key then Some tx else value_in old table key) (nat_list_eq_equiv.refl table)
      ∙ ap (λ b. if b then Some tx else value_in old table key) (same_itself key)

  pub others_kept : KeepsOtherKeys table key (map key_lock old) (map key_lock new)
  others_kept = λ t k other.
      lock_in-map new t k ∙ put t k ∙ ap (λ b. if b then Some tx else value_in old t k) other ∙ sym (lock_in-map old t k)

-- what operations make of a row, one after the other, is their fold
row_in-applied : (ops : List Op) (old new : List TableRow) → AppliesAll old ops new → (t : Bytes) (k : ℤ) → row_in new t k ≡ fold (row_after t k) (row_in old t k) ops
row_in-applied [] old new h t k = h t k
row_in-applied (op ∷ ops) old new h t k =
    row_in-applied ops h.0 new h.2 t k ∙ ap (λ row. fold (row_after t k) row ops) (h.1 t k)

pub rows-entry : (log : List Entry) (entry : Entry) (old new : List TableRow) → AreRowsOf log old → AppliesAll old (ops_of_entry entry) new → AreRowsOf (log ++ entry ∷ []) new
rows-entry log entry old new are applied = λ t k.
    row_in-applied (ops_of_entry entry) old new applied t k
    ∙ ap (λ row. fold (row_after t k) row (ops_of_entry entry)) (are t k)
    ∙ sym (ap (fold (row_after t k) None) (flat_map-append ops_of_entry log (entry ∷ []) ∙ ap (λ ops. ops_of log ++ ops) (alone (ops_of_entry entry)))
    ∙ fold-append (row_after t k) None (ops_of log) (ops_of_entry entry))
  where
    alone : (ops : List Op) → ops ++ [] ≡ ops
    alone [] = refl
    alone (op ∷ ops) = ap (λ xs. op ∷ xs) (alone ops)
