-- What stands behind the index of a call with a given name.
use Rattle.std.proofs.Common.{◌≡◌, ℕ, ℤ, List, [], ◌∷◌, codes, Option, refl}
use Rattle.std.specs.Prelude.{if◌then◌else◌}
use Rattle.std.specs.Str.{bytes_eq}
use Rattle.serde_json.specs.Data.{Items}
use Rattle.sab_block.specs.declared.operand.Operand.{Operand}
use Rattle.sab_block.specs.declared.rmw_op.RmwOp.{RmwOp}
use Rattle.sab_block.specs.declared.rmw_op.RmwOp.TheVariants.{Exchange, Add, Sub, And, Or, Xor}
use Rattle.sab_block.specs.declared.access.Access.TheVariants.{Load, Store, Rmw, CompareExchange}
use Rattle.sab_block.specs.RmwOp.{function_of_op}
use Rattle.sab_plan.specs.declared.argument.Argument.TheVariants.{Value}
use Rattle.sab_plan.specs.declared.call.Call.{Call}
use Rattle.sab_plan.specs.declared.call.Call.TheVariants.{Access as ToAccess, Wait, Notify}
use Rattle.sab_plan.specs.Call.{view_of, optional}
use Rattle.sab_reader.specs.Script.Arguments.{IsNameOfRmw}
use Rattle.sab_reader.specs.Script.Calls.{spelling_of, SpellsArguments, SpellsParts}

-- what a call does, as its name says
pub data Verb : Type 0 where
  load : Verb
  store : Verb
  rmw : RmwOp → Verb
  compare_exchange : Verb
  wait : Verb
  notify : Verb

abbrev op_of : List ℕ → RmwOp
op_of word =
    if bytes_eq (codes "exchange") word then Exchange
    else if bytes_eq (codes "add") word then Add
    else if bytes_eq (codes "sub") word then Sub
    else if bytes_eq (codes "and") word then And
    else if bytes_eq (codes "or") word then Or
    else Xor

abbrev pub verb_of : List ℕ → Verb
verb_of word =
    if bytes_eq (codes "load") word then load
    else if bytes_eq (codes "store") word then store
    else if bytes_eq (codes "compareExchange") word then compare_exchange
    else if bytes_eq (codes "wait") word then wait
    else if bytes_eq (codes "notify") word then notify
    else rmw (op_of word)

pub op_verb : (op : RmwOp) → verb_of (function_of_op op) ≡ rmw op
op_verb Exchange = refl
op_verb Add = refl
op_verb Sub = refl
op_verb And = refl
op_verb Or = refl
op_verb Xor = refl

-- a call of this verb, view and index, whose arguments are spelled by the items
abbrev pub IsCallOf : Verb → ℕ → ℤ → Items → Call → Type 0
IsCallOf load v i ds c = SpellsArguments ds [] × (c ≡ ToAccess v (Load i))
IsCallOf store v i ds c = (x : Operand) × SpellsArguments ds (Value x ∷ []) × (c ≡ ToAccess v (Store i x))
IsCallOf (rmw op) v i ds c = (x : Operand) × SpellsArguments ds (Value x ∷ []) × (c ≡ ToAccess v (Rmw op i x))
IsCallOf compare_exchange v i ds c =
    (p : Operand × Operand) × SpellsArguments ds (Value p.0 ∷ Value p.1 ∷ [])
    × (c ≡ ToAccess v (CompareExchange i p.0 p.1))
IsCallOf wait v i ds c =
    (p : Operand × Option ℤ) × SpellsArguments ds (Value p.0 ∷ optional p.1) × (c ≡ Wait v i p.0 p.1)
IsCallOf notify v i ds c = (n : Option ℤ) × SpellsArguments ds (optional n) × (c ≡ Notify v i n)

-- a call is one of its name's verb
is_call : (ds : Items) (c : Call) → SpellsArguments ds (spelling_of c).arguments
    → IsCallOf (verb_of (spelling_of c).name) (spelling_of c).view (spelling_of c).index ds c
is_call ds (ToAccess v (Load i)) h = (h, refl)
is_call ds (ToAccess v (Store i x)) h = (x, h, refl)
is_call ds (ToAccess v (Rmw op i x)) h = rw (op_verb op) (x, h, refl)
is_call ds (ToAccess v (CompareExchange i x y)) h = ((x, y), h, refl)
is_call ds (Wait v i x t) h = ((x, t), h, refl)
is_call ds (Notify v i n) h = (n, h, refl)

-- its name determines its arguments
pub named_call : (word : List ℕ) (v : ℕ) (i : ℤ) (ds : Items) (c : Call) → SpellsParts word v i ds (spelling_of c)
    → IsCallOf (verb_of word) v i ds c
named_call word v i ds c h = rw (h.name, h.view, h.index) (is_call ds c h.arguments)

-- a call of no other name is a read-modify-write
pub op_named : (word : List ℕ) → (word ≡ codes "load" → ⊥) → (word ≡ codes "store" → ⊥)
    → (word ≡ codes "compareExchange" → ⊥) → (word ≡ codes "wait" → ⊥) → (word ≡ codes "notify" → ⊥) → IsNameOfRmw word
op_named word l s e w n (ToAccess u (Load j)) is = absurd (l is)
op_named word l s e w n (ToAccess u (Store j x)) is = absurd (s is)
op_named word l s e w n (ToAccess u (Rmw op j x)) is = (op, is)
op_named word l s e w n (ToAccess u (CompareExchange j x y)) is = absurd (e is)
op_named word l s e w n (Wait u j x t) is = absurd (w is)
op_named word l s e w n (Notify u j k) is = absurd (n is)

-- a word that differs from all their names is the name of no call
pub no_name : (word : List ℕ) → (word ≡ codes "load" → ⊥) → (word ≡ codes "store" → ⊥) → (word ≡ codes "exchange" → ⊥)
    → (word ≡ codes "add" → ⊥) → (word ≡ codes "sub" → ⊥) → (word ≡ codes "and" → ⊥) → (word ≡ codes "or" → ⊥)
    → (word ≡ codes "xor" → ⊥) → (word ≡ codes "compareExchange" → ⊥) → (word ≡ codes "wait" → ⊥)
    → (word ≡ codes "notify" → ⊥) → (call : Call) → word ≡ (spelling_of call).name → ⊥
no_name word l s e a u n o x c w t (ToAccess v (Load i)) is = l is
no_name word l s e a u n o x c w t (ToAccess v (Store i y)) is = s is
no_name word l s e a u n o x c w t (ToAccess v (Rmw Exchange i y)) is = e is
no_name word l s e a u n o x c w t (ToAccess v (Rmw Add i y)) is = a is
no_name word l s e a u n o x c w t (ToAccess v (Rmw Sub i y)) is = u is
no_name word l s e a u n o x c w t (ToAccess v (Rmw And i y)) is = n is
no_name word l s e a u n o x c w t (ToAccess v (Rmw Or i y)) is = o is
no_name word l s e a u n o x c w t (ToAccess v (Rmw Xor i y)) is = x is
no_name word l s e a u n o x c w t (ToAccess v (CompareExchange i y z)) is = c is
no_name word l s e a u n o x c w t (Wait v i y z) is = w is
no_name word l s e a u n o x c w t (Notify v i y) is = t is

-- the view of the spelling is the one that the call names
pub spelled_view : (c : Call) → (spelling_of c).view ≡ view_of c
spelled_view (ToAccess v (Load i)) = refl
spelled_view (ToAccess v (Store i x)) = refl
spelled_view (ToAccess v (Rmw op i x)) = refl
spelled_view (ToAccess v (CompareExchange i x y)) = refl
spelled_view (Wait v i x t) = refl
spelled_view (Notify v i n) = refl
