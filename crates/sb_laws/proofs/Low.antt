-- Handles and transaction numbers below a bound: in a log, among open transactions and on the wire.
use Rattle.std.proofs.Common.{◌≡◌, ℕ, Bool, true, false, List, [], ◌∷◌, ◌++◌, ◌+◌, ◌^◌, ◌%◌, ◌≤◌, ◌<◌, Option, Some, None, refl, sym, ◌∙◌, ap, subst, arith, cond, map, max}
use Rattle.std.specs.Prelude.{flat_map, fold, IsTrue, ⊤, ◌==◌, ◌&&◌, nat_lt, option_map, unwrap_or}
use Rattle.std.specs.List.{list_any, list_all, last_or, AllByRecursion}
use Rattle.std.proofs.lemmas.Option.{same_Some}
use Rattle.std.proofs.lemmas.Bool.Decides.{nat_tests}
use Rattle.sb_log.specs.declared.identifiers.Handle.{Handle}
use Rattle.sb_log.specs.declared.identifiers.SideId.{SideId}
use Rattle.sb_log.specs.declared.identifiers.Who.{Who}
use Rattle.sb_log.specs.declared.entries.Entry.{Entry}
use Rattle.sb_log.specs.declared.entries.Entry.TheVariants.{Defined, Txn, Accepted, Acked, Fired, Expired, QueueSet}
use Rattle.sb_log.specs.declared.entries.Op.{Op}
use Rattle.sb_log.specs.declared.entries.Op.TheVariants.{Begin, Send, Took, End, Cleanup, Move, Timer, Put, Delete}
use Rattle.sb_log.specs.declared.messages.Frame.{Frame}
use Rattle.sb_log.specs.declared.messages.Frame.TheVariants as frame
use Rattle.sb_model.specs.Sides.{Making, made, makings, made_by, made_by_op, ops_of, ops_of_entry, is_of, firsts_after, sides, same_side, tag, tag_of}
use Rattle.sb_model.specs.Groups.{group_of, group_moved}
use Rattle.sb_model.specs.Transactions.{OpenTransaction, with_ops}
use Rattle.sb_model.specs.Wire.{Wired}
use Rattle.sb_model.specs.Instance.{ids, low_half, own_low, tx_of, groups_moved, next_handle_of, next_tx_of}
use Rattle.sb_model.specs.Logs.{is_fresh}
use Rattle.sb_laws.specs.Fresh.{is_low, is_under}
use Rattle.sb_laws.proofs.Sides.{both_left, both_right}
use Rattle.sb_laws.proofs.Grow.{all_weaker, all_append, all_left, all_right}
use Rattle.sb_laws.proofs.Delivered.{made_is_find}
use Rattle.sb_laws.proofs.Linking.{all_flat_map}
use Rattle.sb_laws.proofs.PlanCases.{all_found}
use Rattle.sb_laws.proofs.Worlds.{fold_below}
use Rattle.sb_laws.proofs.Parts.{mod_least}
use Rattle.std.proofs.lemmas.Grind.{flat_map-append}

abbrev pub IsLow : ℕ → Handle → Type 0
IsLow top g = low_half g.0 < top

abbrev pub OpLow : ℕ → Op → Type 0
OpLow top (Begin handle group header) = IsLow top handle × IsLow top group
OpLow top (Move side group) = IsLow top group
OpLow top _ = ⊤

abbrev pub MakingLow : ℕ → Making → Type 0
MakingLow top m = IsLow top m.side.conversation × IsLow top m.handle × IsLow top m.group

abbrev pub EntryLow : ℕ → Entry → Type 0
EntryLow top (Txn tx ops) = (tx < top) × AllByRecursion (OpLow top) ops
EntryLow top (Accepted side number (Some m) content) = IsLow top side.conversation × IsLow top m.handle × IsLow top m.group
EntryLow top _ = ⊤

abbrev pub LogLow : ℕ → List Entry → Type 0
LogLow top log = AllByRecursion (EntryLow top) log

abbrev pub OpenLow : ℕ → OpenTransaction → Type 0
OpenLow top o = (o.tx < top) × AllByRecursion (OpLow top) o.ops

-- a frame's conversation is below the bound
abbrev pub FrameLow : ℕ → Frame → Type 0
FrameLow top (frame.Data d) = IsLow top d.side.conversation
FrameLow top (frame.Ack k) = ⊤

abbrev pub WiredLow : ℕ → Wired → Type 0
WiredLow top f = FrameLow top f.frame

-- ---- a higher bound

pub op_later : (low top : ℕ) → low ≤ top → (op : Op) → OpLow low op → OpLow top op
op_later low top le (Begin a b c) h = let p = h.0 in let q = h.1 in (omega (arith, p, le), omega (arith, q, le))
op_later low top le (Move a b) h = omega (arith, h, le)
op_later low top le (Send a b c) h = tt
op_later low top le (Took a b) h = tt
op_later low top le (End a b) h = tt
op_later low top le (Cleanup a) h = tt
op_later low top le (Timer a b) h = tt
op_later low top le (Put a b c d) h = tt
op_later low top le (Delete a b) h = tt

pub entry_later : (low top : ℕ) → low ≤ top → (e : Entry) → EntryLow low e → EntryLow top e
entry_later low top le (Txn tx ops) h = let p = h.0 in (omega (arith, p, le), all_weaker (OpLow low) (OpLow top) (op_later low top le) ops h.1)
entry_later low top le (Accepted a b (Some m) d) h = let p = h.0 in let q = h.1 in let r = h.2 in (omega (arith, p, le), omega (arith, q, le), omega (arith, r, le))
entry_later low top le (Accepted a b None d) h = tt
entry_later low top le (Defined a) h = tt
entry_later low top le (Acked a b c) h = tt
entry_later low top le (Fired a) h = tt
entry_later low top le (Expired a) h = tt
entry_later low top le (QueueSet a b) h = tt

pub wired_later : (low top : ℕ) → low ≤ top → (f : Wired) → WiredLow low f → WiredLow top f
wired_later low top le f h = one f.frame h
  where
    one : (g : Frame) → FrameLow low g → FrameLow top g
    one (frame.Data d) k = omega (arith, k, le)
    one (frame.Ack a) k = tt

-- ---- what a low log says

low_by_op : (top : ℕ) (op : Op) → OpLow top op → AllByRecursion (MakingLow top) (made_by_op op)
low_by_op top (Begin a b c) h = ((h.0, h.0, h.1), tt)
low_by_op top (Send a b c) h = tt
low_by_op top (Took a b) h = tt
low_by_op top (End a b) h = tt
low_by_op top (Cleanup a) h = tt
low_by_op top (Move a b) h = tt
low_by_op top (Timer a b) h = tt
low_by_op top (Put a b c d) h = tt
low_by_op top (Delete a b) h = tt

low_by : (top : ℕ) (e : Entry) → EntryLow top e → AllByRecursion (MakingLow top) (made_by e)
low_by top (Txn tx ops) h = all_flat_map (OpLow top) (MakingLow top) made_by_op (low_by_op top) ops h.1
low_by top (Accepted a b (Some m) d) h = (h, tt)
low_by top (Accepted a b None d) h = tt
low_by top (Defined a) h = tt
low_by top (Acked a b c) h = tt
low_by top (Fired a) h = tt
low_by top (Expired a) h = tt
low_by top (QueueSet a b) h = tt

pub low_makings : (top : ℕ) (log : List Entry) → LogLow top log → AllByRecursion (MakingLow top) (makings log)
low_makings top log h = all_flat_map (EntryLow top) (MakingLow top) made_by (low_by top) log h

low_ops : (top : ℕ) (log : List Entry) → LogLow top log → AllByRecursion (OpLow top) (ops_of log)
low_ops top log h = all_flat_map (EntryLow top) (OpLow top) ops_of_entry one log h
  where
    one : (e : Entry) → EntryLow top e → AllByRecursion (OpLow top) (ops_of_entry e)
    one (Txn tx ops) k = k.1
    one (Accepted a b c d) k = tt
    one (Defined a) k = tt
    one (Acked a b c) k = tt
    one (Fired a) k = tt
    one (Expired a) k = tt
    one (QueueSet a b) k = tt

pub low_made : (top : ℕ) (log : List Entry) (s : SideId) (m : Making) → LogLow top log → made log s ≡ Some m → MakingLow top m
low_made top log s m h e = all_found (MakingLow top) (is_of s) (makings log) m (low_makings top log h) (sym (made_is_find log s) ∙ e)

-- the group of a side is one with which it was made or to which it was moved
pub low_group : (top : ℕ) (log : List Entry) (s : SideId) (g : Handle) → LogLow top log → group_of log s ≡ Some g → IsLow top g
low_group top log s g h e = by_made (made log s) refl e
  where
    moved : (op : Op) → OpLow top op → AllByRecursion (IsLow top) (group_moved s op)
    moved (Move side k) l = by_test (same_side side s)
      where
        by_test : (c : Bool) → AllByRecursion (IsLow top) (cond c (k ∷ []) [])
        by_test true = (l, tt)
        by_test false = tt
    moved (Begin a b c) l = tt
    moved (Send a b c) l = tt
    moved (Took a b) l = tt
    moved (End a b) l = tt
    moved (Cleanup a) l = tt
    moved (Timer a b) l = tt
    moved (Put a b c d) l = tt
    moved (Delete a b) l = tt

    last : (k : Handle) (o : Option Handle) (ks : List Handle) → IsLow top k → ((z : Handle) → o ≡ Some z → IsLow top z) → AllByRecursion (IsLow top) ks → IsLow top (unwrap_or (last_or o ks) k)
    last k None [] a b c = a
    last k (Some z) [] a b c = b z refl
    last k o (y ∷ ys) a b c = last k (Some y) ys a (λ z f. subst (IsLow top) (same_Some y z f) c.0) c.1

    none : {P : Type 0} (z : Handle) → None ≡ Some z → P
    none z f = cc

    by_made : (o : Option Making) → made log s ≡ o → option_map (λ m. unwrap_or (last_or None (flat_map (group_moved s) (ops_of log))) m.group) o ≡ Some g → IsLow top g
    by_made None f k = none g k
    by_made (Some m) f k = subst (IsLow top) (same_Some _ g k)
        (last m.group None (flat_map (group_moved s) (ops_of log)) (low_made top log s m h f).2 (λ z i. none z i)
        (all_flat_map (OpLow top) (IsLow top) (group_moved s) moved (ops_of log) (low_ops top log h)))

pub low_sides : (top : ℕ) (log : List Entry) → LogLow top log → AllByRecursion (MakingLow top) (sides log)
low_sides top log h = firsts [] (makings log) (low_makings top log h)
  where
    firsts : (seen : List SideId) (ms : List Making) → AllByRecursion (MakingLow top) ms → AllByRecursion (MakingLow top) (firsts_after seen ms)
    firsts seen [] k = tt
    firsts seen (m ∷ ms) k = by_test (list_any (same_side m.side) seen) (firsts seen ms k.1) (firsts (m.side ∷ seen) ms k.1)
      where
        by_test : (c : Bool) → AllByRecursion (MakingLow top) (firsts_after seen ms) → AllByRecursion (MakingLow top) (firsts_after (m.side ∷ seen) ms) →
            AllByRecursion (MakingLow top) (cond c (firsts_after seen ms) (m ∷ firsts_after (m.side ∷ seen) ms))
        by_test true a b = a
        by_test false a b = (k.0, b)

pub low_view : (top : ℕ) (log : List Entry) (tx : ℕ) (ops : List Op) → LogLow top log → tx < top → AllByRecursion (OpLow top) ops → LogLow top (with_ops log tx ops)
low_view top log tx [] h t k = h
low_view top log tx (op ∷ ops) h t k = all_append (EntryLow top) log (Txn tx (op ∷ ops) ∷ []) h ((t, k), tt)

-- ---- and the ids of it

all_true : {X : Type 0} (p : X → Bool) (xs : List X) → AllByRecursion (λ x. p x ≡ true) xs → list_all p xs ≡ true
all_true p [] h = refl
all_true p (x ∷ xs) h = ap (λ b. b && list_all p xs) h.0 ∙ all_true p xs h.1

true_all : {X : Type 0} (p : X → Bool) (xs : List X) → list_all p xs ≡ true → AllByRecursion (λ x. p x ≡ true) xs
true_all p [] e = tt
true_all p (x ∷ xs) e = (both_left (p x) (list_all p xs) e, true_all p xs (both_right (p x) (list_all p xs) e))

pub is_less : (n top : ℕ) → n < top → nat_lt n top ≡ true
is_less n top lt = grind (arith, nat_tests)

pub less_is : (n top : ℕ) → nat_lt n top ≡ true → n < top
less_is n top e = grind (arith, nat_tests)

pub low_ids : (top : ℕ) (log : List Entry) → LogLow top log → AllByRecursion (IsLow top) (ids log)
low_ids top log h = all_append (IsLow top) (flat_map (λ m. m.side.conversation ∷ m.handle ∷ m.group ∷ []) (makings log)) (flat_map groups_moved (ops_of log))
    (all_flat_map (MakingLow top) (IsLow top) (λ m. m.side.conversation ∷ m.handle ∷ m.group ∷ []) (λ m k. (k.0, (k.1, (k.2, tt)))) (makings log) (low_makings top log h))
    (all_flat_map (OpLow top) (IsLow top) groups_moved moved (ops_of log) (low_ops top log h))
  where
    moved : (op : Op) → OpLow top op → AllByRecursion (IsLow top) (groups_moved op)
    moved (Move a b) k = (k, tt)
    moved (Begin a b c) k = tt
    moved (Send a b c) k = tt
    moved (Took a b) k = tt
    moved (End a b) k = tt
    moved (Cleanup a) k = tt
    moved (Timer a b) k = tt
    moved (Put a b c d) k = tt
    moved (Delete a b) k = tt

pub low_txs : (top : ℕ) (log : List Entry) → LogLow top log → AllByRecursion (λ tx. tx < top) (flat_map tx_of log)
low_txs top log h = all_flat_map (EntryLow top) (λ tx. tx < top) tx_of one log h
  where
    one : (e : Entry) → EntryLow top e → AllByRecursion (λ tx. tx < top) (tx_of e)
    one (Txn tx ops) k = (k.0, tt)
    one (Accepted a b c d) k = tt
    one (Defined a) k = tt
    one (Acked a b c) k = tt
    one (Fired a) k = tt
    one (Expired a) k = tt
    one (QueueSet a b) k = tt

pub low_fresh : (top : ℕ) (log : List Entry) → top ≤ 2 ^ 62 → LogLow top log → IsTrue (is_fresh log)
low_fresh top log le h = both (list_all (λ id. nat_lt (low_half id.0) (2 ^ 62)) (ids log)) (list_all (λ tx. nat_lt tx (2 ^ 62)) (flat_map tx_of log))
    (all_true (λ id. nat_lt (low_half id.0) (2 ^ 62)) (ids log) (all_weaker (IsLow top) (λ id. nat_lt (low_half id.0) (2 ^ 62) ≡ true) (λ id k. is_less (low_half id.0) (2 ^ 62) (omega (arith, k, le))) (ids log) (low_ids top log h)))
    (all_true (λ tx. nat_lt tx (2 ^ 62)) (flat_map tx_of log) (all_weaker (λ tx. tx < top) (λ tx. nat_lt tx (2 ^ 62) ≡ true) (λ tx k. is_less tx (2 ^ 62) (omega (arith, k, le))) (flat_map tx_of log) (low_txs top log h)))
  where
    both : (a b : Bool) → a ≡ true → b ≡ true → (a && b) ≡ true
    both true b e f = f
    both false b e f = e

-- and back: a log whose ids and numbers are below the bound
under_ops : (top : ℕ) (ops : List Op) → AllByRecursion (MakingLow top) (flat_map made_by_op ops) → AllByRecursion (IsLow top) (flat_map groups_moved ops) → AllByRecursion (OpLow top) ops
under_ops top [] m g = tt
under_ops top (Begin a b c ∷ ops) m g = ((m.0.0, m.0.2), under_ops top ops m.1 g)
under_ops top (Move a b ∷ ops) m g = (g.0, under_ops top ops m g.1)
under_ops top (Send a b c ∷ ops) m g = (tt, under_ops top ops m g)
under_ops top (Took a b ∷ ops) m g = (tt, under_ops top ops m g)
under_ops top (End a b ∷ ops) m g = (tt, under_ops top ops m g)
under_ops top (Cleanup a ∷ ops) m g = (tt, under_ops top ops m g)
under_ops top (Timer a b ∷ ops) m g = (tt, under_ops top ops m g)
under_ops top (Put a b c d ∷ ops) m g = (tt, under_ops top ops m g)
under_ops top (Delete a b ∷ ops) m g = (tt, under_ops top ops m g)

under_log : (top : ℕ) (log : List Entry) → AllByRecursion (MakingLow top) (makings log) → AllByRecursion (IsLow top) (flat_map groups_moved (ops_of log)) → AllByRecursion (λ tx. tx < top) (flat_map tx_of log) → LogLow top log
under_log top [] m g t = tt
under_log top (Txn tx ops ∷ log) m g t = (
  (t.0, under_ops top ops (all_left (MakingLow top) (flat_map made_by_op ops) (makings log) m) (all_left (IsLow top) (flat_map groups_moved ops) (flat_map groups_moved (ops_of log)) (split g))),
  under_log top log (all_right (MakingLow top) (flat_map made_by_op ops) (makings log) m) (all_right (IsLow top) (flat_map groups_moved ops) (flat_map groups_moved (ops_of log)) (split g)) t.1,
)
  where
    split : AllByRecursion (IsLow top) (flat_map groups_moved (ops ++ ops_of log)) → AllByRecursion (IsLow top) (flat_map groups_moved ops ++ flat_map groups_moved (ops_of log))
    split k = subst (AllByRecursion (IsLow top)) (flat_map-append groups_moved ops (ops_of log)) k
under_log top (Accepted a b (Some k) d ∷ log) m g t = (m.0, under_log top log m.1 g t)
under_log top (Accepted a b None d ∷ log) m g t = (tt, under_log top log m g t)
under_log top (Defined a ∷ log) m g t = (tt, under_log top log m g t)
under_log top (Acked a b c ∷ log) m g t = (tt, under_log top log m g t)
under_log top (Fired a ∷ log) m g t = (tt, under_log top log m g t)
under_log top (Expired a ∷ log) m g t = (tt, under_log top log m g t)
under_log top (QueueSet a b ∷ log) m g t = (tt, under_log top log m g t)

pub under_is_low : (top : ℕ) (log : List Entry) → IsTrue (is_under top log) → LogLow top log
under_is_low top log e =
    let low : AllByRecursion (IsLow top) (ids log) = all_weaker (λ id. is_low top id ≡ true) (IsLow top) (λ id k. less_is (low_half id.0) top k) (ids log)
    (true_all (is_low top) (ids log) (both_left (list_all (is_low top) (ids log)) (list_all (λ tx. nat_lt tx top) (flat_map tx_of log)) e)) in
    under_log top log
    (unmade (makings log) (all_left (IsLow top) (flat_map (λ m. m.side.conversation ∷ m.handle ∷ m.group ∷ []) (makings log)) (flat_map groups_moved (ops_of log)) low))
    (all_right (IsLow top) (flat_map (λ m. m.side.conversation ∷ m.handle ∷ m.group ∷ []) (makings log)) (flat_map groups_moved (ops_of log)) low)
    (all_weaker (λ tx. nat_lt tx top ≡ true) (λ tx. tx < top) (λ tx k. less_is tx top k) (flat_map tx_of log)
    (true_all (λ tx. nat_lt tx top) (flat_map tx_of log) (both_right (list_all (is_low top) (ids log)) (list_all (λ tx. nat_lt tx top) (flat_map tx_of log)) e)))
  where
    unmade : (ms : List Making) → AllByRecursion (IsLow top) (flat_map (λ m. m.side.conversation ∷ m.handle ∷ m.group ∷ []) ms) → AllByRecursion (MakingLow top) ms
    unmade [] k = tt
    unmade (m ∷ ms) k = ((k.0, k.1.0, k.1.1.0), unmade ms k.1.1.1)

-- the counters of an opening
pub low_counters : (top : ℕ) (x : Who) (log : List Entry) → 1 ≤ top → LogLow top log → (next_handle_of x log ≤ top) × (next_tx_of log ≤ top)
low_counters top x log some h = (
  least (fold max 0 (map (own_low x) (ids log))) (fold_below top 0 (map (own_low x) (ids log)) (omega (arith, some)) (own (ids log) (low_ids top log h))),
  least (fold max 0 (flat_map tx_of log)) (fold_below top 0 (flat_map tx_of log) (omega (arith, some)) (low_txs top log h)),
)
  where
    least : (k : ℕ) → k < top → (k + 1) % 2 ^ 64 ≤ top
    least k lt = omega (arith, mod_least (k + 1), lt)

    own : (hs : List Handle) → AllByRecursion (IsLow top) hs → AllByRecursion (λ n. n < top) (map (own_low x) hs)
    own [] k = tt
    own (g ∷ hs) k = (by_test (tag_of g == tag x) k.0, own hs k.1)
      where
        by_test : (c : Bool) → low_half g.0 < top → cond c (low_half g.0) 0 < top
        by_test true lt = lt
        by_test false lt = omega (arith, some)
