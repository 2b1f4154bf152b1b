-- What was numbered stays in its place, and one more accepted message keeps the prefix.
use Rattle.std.proofs.Common.{◌≡◌, ℕ, true, List, [], ◌∷◌, ◌++◌, Option, Some, refl, sym, ◌∙◌, ap, length, append_assoc, inl, inr, append-nil}
use Rattle.std.specs.Prelude.{flat_map, slice_get, ◌⊎◌}
use Rattle.std.proofs.lemmas.Grind.{flat_map-append}
use Rattle.sb_log.specs.declared.identifiers.SideId.{SideId}
use Rattle.sb_log.specs.declared.entries.Entry.{Entry}
use Rattle.sb_log.specs.declared.entries.Entry.TheVariants.{Accepted}
use Rattle.sb_log.specs.declared.entries.NewSide.{NewSide}
use Rattle.sb_log.specs.declared.messages.Content.{Content}
use Rattle.sb_model.specs.Sides.{same_side, partner}
use Rattle.sb_model.specs.Messages.{sends, ends, contents_accepted, accepted}
use Rattle.sb_model.specs.Messages.{numbered, final_sent, final_content, first_of}
use Rattle.sb_model.specs.Survival.{IsPrefixOf}
use Rattle.sb_laws.proofs.Growth.{sends-append, contents_accepted-append}

-- the rest of a list begins with the element that stands there
next_at : {A : Type 0} (xs rest : List A) (c : A) → slice_get (xs ++ rest) (length xs) ≡ Some c → IsPrefixOf (c ∷ []) rest
next_at [] [] c at = cc
next_at [] (r ∷ rest) c at = let e : r ≡ c = cc in (rest, ap (λ x. x ∷ rest) (sym e))
next_at (x ∷ xs) rest c at = next_at xs rest c at

-- the list with its next element still begins the other
pub prefix_next : {A : Type 0} (xs ys : List A) (c : A) → IsPrefixOf xs ys → slice_get ys (length xs) ≡ Some c → IsPrefixOf (xs ++ c ∷ []) ys
prefix_next xs ys c p at =
    let q : IsPrefixOf (c ∷ []) p.0 = next_at xs p.0 c (ap (λ l. slice_get l (length xs)) p.1 ∙ at) in
    (q.0, append_assoc xs (c ∷ []) q.0 ∙ ap (λ l. xs ++ l) q.1 ∙ p.1)

ends-append : (xs ys : List Entry) (s : SideId) → ends (xs ++ ys) s ≡ ends xs s ++ ends ys s
ends-append xs ys s = simp flat_map-append

first_of-append : (xs ys : List Content) (c : Content) (rest : List Content) → xs ≡ c ∷ rest → first_of (xs ++ ys) ≡ first_of xs
first_of-append [] ys c rest e = cc
first_of-append (x ∷ xs) ys c rest e = refl

numbered_open : (log more : List Entry) (s : SideId) → final_sent log s ≡ [] → IsPrefixOf (numbered log s) (numbered (log ++ more) s)
numbered_open log more s none = (
  sends more s ++ final_sent (log ++ more) s,
  ap (λ l. (sends log s ++ l) ++ (sends more s ++ final_sent (log ++ more) s)) none
      ∙ ap (λ l. l ++ (sends more s ++ final_sent (log ++ more) s)) (append-nil (sends log s))
      ∙ sym (append_assoc (sends log s) (sends more s) (final_sent (log ++ more) s))
      ∙ ap (λ l. l ++ final_sent (log ++ more) s) (sym (sends-append log more s)),
)

numbered_silent : (finals : List Content) (log more : List Entry) (s : SideId) → flat_map final_content (ends log s) ≡ finals →
    sends more s ≡ [] → IsPrefixOf (numbered log s) (numbered (log ++ more) s)
numbered_silent [] log more s e silent = numbered_open log more s (ap first_of e)
numbered_silent (c ∷ rest) log more s e silent =
    let same_final : final_sent (log ++ more) s ≡ final_sent log s =
    ap first_of (ap (flat_map final_content) (ends-append log more s) ∙ flat_map-append final_content (ends log s) (ends more s))
    ∙ first_of-append (flat_map final_content (ends log s)) (flat_map final_content (ends more s)) c rest e in
    let same_sends : sends (log ++ more) s ≡ sends log s =
    sends-append log more s ∙ ap (λ l. sends log s ++ l) silent ∙ append-nil (sends log s) in
    ([], append-nil (numbered log s) ∙ ap (λ l. l ++ final_sent log s) (sym same_sends) ∙ ap (λ l. sends (log ++ more) s ++ l) (sym same_final))

-- a side that has no final message, or sends nothing more, keeps what it numbered
pub numbered_grows : (log more : List Entry) (s : SideId) → (final_sent log s ≡ []) ⊎ (sends more s ≡ []) →
    IsPrefixOf (numbered log s) (numbered (log ++ more) s)
numbered_grows log more s (inl none) = numbered_open log more s none
numbered_grows log more s (inr silent) = numbered_silent (flat_map final_content (ends log s)) log more s refl silent

-- part 4 after one more accepted message: it is the one that stands next among the partner's numbered ones
pub accepted_kept : (lx ly : List Entry) (s : SideId) (n : ℕ) (m : Option NewSide) (c : Content) →
    IsPrefixOf (contents_accepted lx s) (numbered ly (partner s)) → slice_get (numbered ly (partner s)) (accepted lx s) ≡ Some c →
    same_side s s ≡ true → IsPrefixOf (contents_accepted (lx ++ Accepted s n m c ∷ []) s) (numbered ly (partner s))
accepted_kept lx ly s n m c p at same =
    let one : contents_accepted (lx ++ Accepted s n m c ∷ []) s ≡ contents_accepted lx s ++ c ∷ [] =
    contents_accepted-append lx (Accepted s n m c ∷ []) s ∙ rw same refl in
    rw one (prefix_next (contents_accepted lx s) (numbered ly (partner s)) c p at)
