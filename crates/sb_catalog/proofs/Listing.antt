-- A list of names is judged from its first place on.
use Rattle.std.proofs.Common.{◌≡◌, ℕ, ◌<◌, ◌+◌, Bool, true, false, List, [], ◌∷◌, ◌++◌, length, take, drop, get_or, map, refl, ap, sym, ◌∙◌}
use Rattle.std.specs.Prelude.{◌||◌, Option, Some, None, is_none, is_some}
use Rattle.std.specs.List.{list_any}
use Rattle.std.proofs.Math.Bool.{or_comm}
use Rattle.std.proofs.lemmas.List.{at_drop_more, map_more}
use Rattle.std.proofs.lemmas.List.Folds.{list_any-append}
use Rattle.sb_log.specs.declared.refusals.Refusal.{Refusal}
use Rattle.sb_log.specs.declared.refusals.Refusal.TheVariants as refusal
use Rattle.sb_model.specs.Sides.{Bytes, same_name}
use Rattle.sb_model.specs.Definitions.{listed, missing}
use Rattle.sb_model.specs.Refusals.{or_else, when}

any_moved : {A : Type 0} (p : A → Bool) (x : A) (xs : List A) → list_any p (x ∷ xs) ≡ list_any p (xs ++ x ∷ [])
any_moved p x xs = or_comm (p x) (list_any p xs) ∙ ap (λ b. list_any p xs || b) (or_none (p x)) ∙ sym (list_any-append p xs (x ∷ []))
  where
    or_none : (b : Bool) → b ≡ (b || false)
    or_none true = refl
    or_none false = refl

module _ {A : Type 0} (look : Bytes → Option A) (refuse : Bytes → Refusal) where
  -- what was seen counts only by its names
  seen_alike : (names s t : List Bytes) → ((name : Bytes) → list_any (same_name name) s ≡ list_any (same_name name) t) → listed look refuse s names ≡ listed look refuse t names
  seen_alike [] s t same = refl
  seen_alike (name ∷ names) s t same =
      ap (λ b. or_else (when b (refusal.NameTaken name)) (or_else (missing look refuse name) (listed look refuse (name ∷ s) names))) (same name)
      ∙ ap (λ rest. or_else (when (list_any (same_name name) t) (refusal.NameTaken name)) (or_else (missing look refuse name) rest))
      (seen_alike names (name ∷ s) (name ∷ t) (λ other. ap (λ b. same_name other name || b) (same other)))

  pub listed_next : (seen : List Bytes) (name : Bytes) (names : List Bytes) → list_any (same_name name) seen ≡ false → is_none (look name) ≡ false
      → listed look refuse seen (name ∷ names) ≡ listed look refuse (seen ++ name ∷ []) names
  listed_next seen name names once there =
      ap (λ b. or_else (when b (refusal.NameTaken name)) (or_else (missing look refuse name) (listed look refuse (name ∷ seen) names))) once
      ∙ ap (λ b. or_else (when b (refuse name)) (listed look refuse (name ∷ seen) names)) there
      ∙ seen_alike names (name ∷ seen) (seen ++ name ∷ []) (λ other. any_moved (same_name other) name seen)

  pub listed_twice : (seen : List Bytes) (name : Bytes) (names : List Bytes) → list_any (same_name name) seen ≡ true → listed look refuse seen (name ∷ names) ≡ Some (refusal.NameTaken name)
  listed_twice seen name names twice =
      ap (λ b. or_else (when b (refusal.NameTaken name)) (or_else (missing look refuse name) (listed look refuse (name ∷ seen) names))) twice

  pub listed_missing : (seen : List Bytes) (name : Bytes) (names : List Bytes) → list_any (same_name name) seen ≡ false → is_none (look name) ≡ true
      → listed look refuse seen (name ∷ names) ≡ Some (refuse name)
  listed_missing seen name names once gone =
      ap (λ b. or_else (when b (refusal.NameTaken name)) (or_else (missing look refuse name) (listed look refuse (name ∷ seen) names))) once
      ∙ ap (λ b. or_else (when b (refuse name)) (listed look refuse (name ∷ seen) names)) gone

pub listed_step : {A T : Type 0} (look : Bytes → Option A) (refuse : Bytes → Refusal) (name : T → Bytes) (items : List T) (i : ℕ) (x : T) → i < length items → x ≡ get_or items i x
    → list_any (same_name (name x)) (map name (take i items)) ≡ false → is_none (look (name x)) ≡ false
    → listed look refuse (map name (take i items)) (map name (drop i items)) ≡ listed look refuse (map name (take (i + 1) items)) (map name (drop (i + 1) items))
listed_step look refuse name items i x within at once there =
    at_drop_more (λ ys. listed look refuse (map name (take i items)) (map name ys)) items i x within
    ∙ ap (λ y. listed look refuse (map name (take i items)) (name y ∷ map name (drop (i + 1) items))) (sym at)
    ∙ listed_next look refuse (map name (take i items)) (name x) (map name (drop (i + 1) items)) once there
    ∙ ap (λ y. listed look refuse (map name (take i items) ++ name y ∷ []) (map name (drop (i + 1) items))) at
    ∙ ap (λ s. listed look refuse s (map name (drop (i + 1) items))) (sym (map_more name items i x within))

pub not_none : {A : Type 0} (o : Option A) → is_some o ≡ true → is_none o ≡ false
not_none None h = sym h
not_none (Some x) h = refl
