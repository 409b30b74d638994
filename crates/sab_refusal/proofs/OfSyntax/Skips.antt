-- JSON's grammar, of which only what is left is kept, if each number passes a test.
use Rattle.std.proofs.Common.{◌≡◌, ℕ, zero, suc, ◌-◌, ◌<◌, ◌≤◌, Bool, true, false, cond, ◌&&◌, List, [], ◌∷◌, length, Option, Some, None, option_and_then, refl, sym, ap, ◌∙◌, arith}
use Rattle.std.proofs.lemmas.Grind.{common_steps}
use Rattle.json.specs.Token.{Token}
use Rattle.json.specs.Json.{Json, null, boolean, number, string, array, object, Items, no_items, item, Members, no_members, member, Parse, parse_map, after_end_array, read_key, items_step, members_step, items, members, value}
use Rattle.json.proofs.Grammar.{left, skip_value-shorter, read_key-shorter, value_is}

-- the numbers of a value pass a test
abbrev mutual
  pub passes : (List ℕ → Bool) → Json → Bool
  passes ok null = true
  passes ok (boolean b) = true
  passes ok (number s) = ok s
  passes ok (string s) = true
  passes ok (array js) = passes_items ok js
  passes ok (object ms) = passes_members ok ms

  pub passes_items : (List ℕ → Bool) → Items → Bool
  passes_items ok no_items = true
  passes_items ok (item j js) = passes ok j && passes_items ok js

  pub passes_members : (List ℕ → Bool) → Members → Bool
  passes_members ok no_members = true
  passes_members ok (member k j ms) = passes ok j && passes_members ok ms

-- what is left behind something that passes
abbrev pub keep : {A : Type 0} → (A → Bool) → Option (A × List Token) → Option (List Token)
keep p None = None
keep p (Some q) = cond (p q.0) (Some q.1) None

and_then_cond : {A B : Type 0} (b : Bool) (f : A → Option B) (a : A)
    → option_and_then f (cond b (Some a) None) ≡ cond b (f a) None
and_then_cond true f a = refl
and_then_cond false f a = refl

none_either : (b : Bool) → ◌≡◌ {A = Option (List Token)} None (cond b None None)
none_either true = refl
none_either false = refl

both_pass : (b c : Bool) (r : List Token) → cond (b && c) (Some r) None ≡ cond b (cond c (Some r) None) None
both_pass true c r = refl
both_pass false c r = refl

-- a part, and then more
module _ {A B C : Type 0} (p : A → Bool) (q : B → Bool) (pq : C → Bool) (f : A → B → C) (splits : (a : A) (b : B)
    → pq (f a b) ≡ (p a && q b)) where
  keep_more : (a : A) (o : Option (B × List Token)) → keep pq (parse_map (f a) o) ≡ cond (p a) (keep q o) None
  keep_more a None = none_either (p a)
  keep_more a (Some x) = ap (λ b. cond b (Some x.1) None) (splits a x.0) ∙ both_pass (p a) (q x.0) x.1

  keep_then : (more : Parse B) (o : Option (A × List Token))
      → keep pq (option_and_then (λ x. parse_map (f x.0) (more x.1)) o)
      ≡ option_and_then (λ r. keep q (more r)) (keep p o)
  keep_then more None = refl
  keep_then more (Some x) = keep_more x.0 (more x.1) ∙ sym (and_then_cond (p x.0) (λ r. keep q (more r)) x.1)

keep_map : {A B : Type 0} (p : A → Bool) (q : B → Bool) (f : A → B) → ((a : A) → q (f a) ≡ p a)
    → (o : Option (A × List Token))
    → keep q (parse_map f o) ≡ keep p o
keep_map p q f same None = refl
keep_map p q f same (Some x) = ap (λ b. cond b (Some x.1) None) (same x.0)

keep_left : {A : Type 0} (p : A → Bool) (o : Option (A × List Token)) (r : List Token) → keep p o ≡ Some r
    → left o ≡ Some r
keep_left p None r e = e
keep_left p (Some x) r e = grind (arith, common_steps, cond)

module _ (ok : List ℕ → Bool) where
  pub skip : ℕ → List Token → Option (List Token)
  skip d ts = keep (passes ok) (value d ts)

  pub skip_items : ℕ → ℕ → List Token → Option (List Token)
  skip_items d n ts = keep (passes_items ok) (items (value d) n ts)

  pub skip_members : ℕ → ℕ → List Token → Option (List Token)
  skip_members d n ts = keep (passes_members ok) (members (value d) n ts)

  pub skip_is : (d : ℕ) (ts : List Token) → skip d ts ≡ keep (passes ok) (value d ts)
  unfolding skip
  skip_is d ts = refl

  pub skip-shorter : (d : ℕ) (ts r : List Token) → skip d ts ≡ Some r → length r < length ts
  unfolding skip
  skip-shorter d ts r e = skip_value-shorter d ts r (keep_left (passes ok) (value d ts) r e)

  -- one value, by its first token

  pub skip-nil : (d : ℕ) → skip d [] ≡ None
  unfolding skip
  skip-nil d = ap (keep (passes ok)) (value_is d [])

  pub skip-number : (d : ℕ) (s : List ℕ) (ts : List Token) → skip d (Token.number s ∷ ts) ≡ cond (ok s) (Some ts) None
  unfolding skip
  skip-number d s ts = ap (keep (passes ok)) (value_is d (Token.number s ∷ ts))

  pub skip-string : (d : ℕ) (s : List ℕ) (ts : List Token) → skip d (Token.string s ∷ ts) ≡ Some ts
  unfolding skip
  skip-string d s ts = ap (keep (passes ok)) (value_is d (Token.string s ∷ ts))

  pub skip-boolean : (d : ℕ) (b : Bool) (ts : List Token) → skip d (Token.boolean b ∷ ts) ≡ Some ts
  unfolding skip
  skip-boolean d b ts = ap (keep (passes ok)) (value_is d (Token.boolean b ∷ ts))

  pub skip-null : (d : ℕ) (ts : List Token) → skip d (Token.null ∷ ts) ≡ Some ts
  unfolding skip
  skip-null d ts = ap (keep (passes ok)) (value_is d (Token.null ∷ ts))

  pub skip-bad : (d : ℕ) (ts : List Token) → skip d (Token.bad ∷ ts) ≡ None
  unfolding skip
  skip-bad d ts = ap (keep (passes ok)) (value_is d (Token.bad ∷ ts))

  pub skip-key : (d : ℕ) (s : List ℕ) (ts : List Token) → skip d (Token.key s ∷ ts) ≡ None
  unfolding skip
  skip-key d s ts = ap (keep (passes ok)) (value_is d (Token.key s ∷ ts))

  pub skip-end_array : (d : ℕ) (ts : List Token) → skip d (Token.end_array ∷ ts) ≡ None
  unfolding skip
  skip-end_array d ts = ap (keep (passes ok)) (value_is d (Token.end_array ∷ ts))

  pub skip-end_object : (d : ℕ) (ts : List Token) → skip d (Token.end_object ∷ ts) ≡ None
  unfolding skip
  skip-end_object d ts = ap (keep (passes ok)) (value_is d (Token.end_object ∷ ts))

  pub skip-array_deep : (ts : List Token) → skip 0 (Token.begin_array ∷ ts) ≡ None
  unfolding skip value
  skip-array_deep ts = refl

  pub skip-object_deep : (ts : List Token) → skip 0 (Token.begin_object ∷ ts) ≡ None
  unfolding skip value
  skip-object_deep ts = refl

  pub skip-array : (d : ℕ) (ts : List Token) → skip (suc d) (Token.begin_array ∷ ts) ≡ skip_items d (length ts) ts
  unfolding skip skip_items value
  skip-array d ts = keep_map (passes_items ok) (passes ok) array (λ js. refl) (items (value d) (length ts) ts)

  pub skip-object : (d : ℕ) (ts : List Token) → skip (suc d) (Token.begin_object ∷ ts) ≡ skip_members d (length ts) ts
  unfolding skip skip_members value
  skip-object d ts = keep_map (passes_members ok) (passes ok) object (λ ms. refl) (members (value d) (length ts) ts)

  -- one turn of a loop

  abbrev pub item_turn : ℕ → ℕ → List Token → Option (List Token) → Option (List Token)
  item_turn d n ts (Some r) = Some r
  item_turn d n ts None = option_and_then (skip_items d n) (skip d ts)

  skip_item : (d n : ℕ) (ts : List Token) (o : Option (List Token))
      → keep (passes_items ok) (items_step (value d) (items (value d) n) ts o) ≡ item_turn d n ts o
  unfolding skip_items skip
  skip_item d n ts (Some r) = refl
  skip_item d n ts None =
      keep_then (passes ok) (passes_items ok) (passes_items ok) item (λ j js. refl) (items (value d) n) (value d ts)

  pub skip_items-suc : (d n : ℕ) (ts : List Token) → skip_items d (suc n) ts ≡ item_turn d n ts (after_end_array ts)
  unfolding skip_items items
  skip_items-suc d n ts = skip_item d n ts (after_end_array ts)

  pub skip_items-zero : (d : ℕ) (ts : List Token) → skip_items d 0 ts ≡ None
  unfolding skip_items items
  skip_items-zero d ts = refl

  abbrev pub member_turn : ℕ → ℕ → Option (Option (List ℕ) × List Token) → Option (List Token)
  member_turn d n None = None
  member_turn d n (Some (None, r)) = Some r
  member_turn d n (Some (Some k, r)) = option_and_then (skip_members d n) (skip d r)

  skip_member : (d n : ℕ) (o : Option (Option (List ℕ) × List Token))
      → keep (passes_members ok) (option_and_then (λ p. members_step (value d) (members (value d) n) p.0 p.1) o)
      ≡ member_turn d n o
  unfolding skip_members skip
  skip_member d n None = refl
  skip_member d n (Some (None, r)) = refl
  skip_member d n (Some (Some k, r)) =
      keep_then (passes ok) (passes_members ok) (passes_members ok) (member k) (λ j ms. refl) (members (value d) n)
      (value d r)

  pub skip_members-suc : (d n : ℕ) (ts : List Token) → skip_members d (suc n) ts ≡ member_turn d n (read_key ts)
  unfolding skip_members members
  skip_members-suc d n ts = skip_member d n (read_key ts)

  pub skip_members-zero : (d : ℕ) (ts : List Token) → skip_members d 0 ts ≡ None
  unfolding skip_members members
  skip_members-zero d ts = refl

  -- enough turns are enough

  no_turn : (d n : ℕ) (ts : List Token) → length ts ≤ 0 → skip_items d n ts ≡ None
  no_turn d zero ts le = skip_items-zero d ts
  no_turn d (suc n) [] le = skip_items-suc d n [] ∙ ap (option_and_then (skip_items d n)) (skip-nil d)
  no_turn d (suc n) (t ∷ ts) le = absurd (omega arith)

  same_turn : (d n m : ℕ) (ts : List Token) → ((r : List Token) → length r < length ts
      → skip_items d n r ≡ skip_items d m r)
      → (o s : Option (List Token)) → skip d ts ≡ s → item_turn d n ts o ≡ item_turn d m ts o
  same_turn d n m ts ih (Some r) s e = refl
  same_turn d n m ts ih None None e = ap (option_and_then (skip_items d n)) e
      ∙ sym (ap (option_and_then (skip_items d m)) e)
  same_turn d n m ts ih None (Some r) e =
      ap (option_and_then (skip_items d n)) e ∙ ih r (skip-shorter d ts r e)
      ∙ sym (ap (option_and_then (skip_items d m)) e)

  pub same_items : (d n m : ℕ) (ts : List Token) → length ts ≤ n → length ts ≤ m → skip_items d n ts ≡ skip_items d m ts
  same_items d zero m ts a b = skip_items-zero d ts ∙ sym (no_turn d m ts a)
  same_items d (suc n) zero ts a b = no_turn d (suc n) ts b ∙ sym (skip_items-zero d ts)
  same_items d (suc n) (suc m) ts a b =
      let ih = λ (r : List Token) (less : length r < length ts). same_items d n m r (omega arith) (omega arith) in
      skip_items-suc d n ts ∙ same_turn d n m ts ih (after_end_array ts) (skip d ts) refl ∙ sym (skip_items-suc d m ts)

  no_member : (d n : ℕ) (ts : List Token) → length ts ≤ 0 → skip_members d n ts ≡ None
  no_member d zero ts le = skip_members-zero d ts
  no_member d (suc n) [] le = skip_members-suc d n []
  no_member d (suc n) (t ∷ ts) le = absurd (omega arith)

  same_behind : (d n m : ℕ) (r : List Token) → ((x : List Token) → length x < length r
      → skip_members d n x ≡ skip_members d m x)
      → (s : Option (List Token)) → skip d r ≡ s
      → option_and_then (skip_members d n) (skip d r) ≡ option_and_then (skip_members d m) (skip d r)
  same_behind d n m r ih None e = ap (option_and_then (skip_members d n)) e
      ∙ sym (ap (option_and_then (skip_members d m)) e)
  same_behind d n m r ih (Some x) e =
      ap (option_and_then (skip_members d n)) e ∙ ih x (skip-shorter d r x e)
      ∙ sym (ap (option_and_then (skip_members d m)) e)

  same_member : (d n m : ℕ) (ts : List Token) → ((x : List Token) → length x < length ts
      → skip_members d n x ≡ skip_members d m x)
      → (o : Option (Option (List ℕ) × List Token)) → read_key ts ≡ o → member_turn d n o ≡ member_turn d m o
  same_member d n m ts ih None e = refl
  same_member d n m ts ih (Some (None, r)) e = refl
  same_member d n m ts ih (Some (Some k, r)) e =
      let shorter = read_key-shorter ts (Some k) r e in
      same_behind d n m r (λ x less. ih x (omega arith)) (skip d r) refl

  pub same_members : (d n m : ℕ) (ts : List Token) → length ts ≤ n → length ts ≤ m
      → skip_members d n ts ≡ skip_members d m ts
  same_members d zero m ts a b = skip_members-zero d ts ∙ sym (no_member d m ts a)
  same_members d (suc n) zero ts a b = no_member d (suc n) ts b ∙ sym (skip_members-zero d ts)
  same_members d (suc n) (suc m) ts a b =
      let ih = λ (r : List Token) (less : length r < length ts). same_members d n m r (omega arith) (omega arith) in
      skip_members-suc d n ts ∙ same_member d n m ts ih (read_key ts) refl ∙ sym (skip_members-suc d m ts)
