-- Each kind of expression leaves complete and open structures and unions as they were, where its parts do.
use Rattle.std.proofs.Common.{ℕ, zero, suc, List, [], ◌∷◌, map, take, drop, Bool, true, false, Option, None, Some}
use Rattle.fc_base.specs.declared.refusals.Place.{Place}
use Rattle.c_tree.specs.declared.operators.AssignOp.{AssignOp}
use Rattle.c_tree.specs.declared.operators.BinaryOp.{BinaryOp}
use Rattle.c_tree.specs.declared.operators.PrefixOp.{PrefixOp}
use Rattle.c_tree.specs.declared.operators.PostfixOp.{PostfixOp}
use Rattle.elab_meaning.specs.Scope.{Name, lookup}
use Rattle.std.specs.Prelude.{nat_lt, is_some, is_none, not, ◌&&◌, length, ◌+◌}
use Rattle.std.specs.Option.{option_map, option_map_or}
use Rattle.fc_base.specs.declared.rules.Rule.TheVariants.{UnknownName, LimitObject, FunctionPointer, LimitArguments, NotConstant, BadOperands, BadCall, FormatLiteral, FormatSpec, FormatArgs, SizeMode}
use Rattle.c_layout.specs.Layouts.{largest_type}
use Rattle.c_layout.specs.Types.{is_pointer, tag_of, unsigned_long}
use Rattle.c_tree.specs.Constants.{constant_of}
use Rattle.c_tree.specs.Typed.{most_arguments}
use Rattle.c_tree.specs.declared.typed.TypedKind.TheVariants as e
use Rattle.elab_meaning.specs.Nodes.{node}
use Rattle.elab_meaning.specs.Typing.{Check, ◌>>=◌, each, first, new_object, pure}
use Rattle.elab_meaning.specs.Parts.{Form, is_name, is_text, is_other, ReadExpr, ReadTypeName}
use Rattle.elab_meaning.specs.Operators.{Wanted, plain_value, any_place, modifiable_place, wanted}
use Rattle.elab_meaning.specs.Conversions.{decayed}
use Rattle.elab_meaning.specs.Expressions.{value_part, wanted_part, is_unknown, is_function, named, name_typed, text_typed, text_type, literal, comma_typed, assign_typed, cond_typed, binary_typed, cast_typed, prefix_typed, postfix_typed, sizeof_typed, sizeof_type_typed, index_typed, base_part, member_of, holder, member_node, member_typed, called_part, called_use, conversions, is_literal, format_parts, before_format, argument_parts, arguments_fit, right_number, further_fit, call_node, call_typed, size_call_typed}
use Rattle.elab_types.specs.Keeps.{Keeps}
use Rattle.elab_types.proofs.Keeping.{AllKeep, bind, checked, pure_keeps, first_keeps, by_tags_keeps, new_object_keeps, each_keeps}

abbrev pub AllExprs : List ReadExpr → Type 0
AllExprs [] = Unit {0}
AllExprs (p ∷ ps) = Keeps p.typed × AllExprs ps

pub value_keeps : (p : ReadExpr) → Keeps p.typed → Keeps (value_part p)
value_keeps p h = bind p.typed _ h (λ x. pure_keeps (decayed x))

wanted_keeps : (w : Wanted) (p : ReadExpr) → Keeps p.typed → Keeps (wanted_part w p)
wanted_keeps plain_value p h = value_keeps p h
wanted_keeps any_place p h = h
wanted_keeps modifiable_place p h = h

values_keep : (ps : List ReadExpr) → AllExprs ps → AllKeep (map value_part ps)
values_keep [] h = tt
values_keep (p ∷ ps) h = (value_keeps p h.0, values_keep ps h.1)

all_take : (n : ℕ) (ps : List ReadExpr) → AllExprs ps → AllExprs (take n ps)
all_take zero ps h = tt
all_take (suc n) [] h = tt
all_take (suc n) (p ∷ ps) h = (h.0, all_take n ps h.1)

all_drop : (n : ℕ) (ps : List ReadExpr) → AllExprs ps → AllExprs (drop n ps)
all_drop zero ps h = h
all_drop (suc n) [] h = tt
all_drop (suc n) (p ∷ ps) h = all_drop n ps h.1

pub name_keeps : (name : Name) (at : Place) → Keeps (name_typed name at)
name_keeps name at =
    checked (λ s. option_map (λ a. a.1) (lookup name s)) at (λ used. (UnknownName, is_unknown used) ∷ (FunctionPointer, is_function used) ∷ [])
    (λ used. pure (named used at)) (λ used. pure_keeps (named used at))

pub text_keeps : (text : List ℕ) (at : Place) → Keeps (text_typed text at)
text_keeps text at =
    bind (first at ((LimitObject, nat_lt largest_type (length text + 1)) ∷ []))
    (λ u. new_object (literal text) >>= (λ number. pure (node (e.Object number) (text_type text) at)))
    (first_keeps at ((LimitObject, nat_lt largest_type (length text + 1)) ∷ []))
    (λ u. bind (new_object (literal text)) (λ number. pure (node (e.Object number) (text_type text) at)) (new_object_keeps (literal text))
    (λ number. pure_keeps (node (e.Object number) (text_type text) at)))

pub comma_keeps : (ps : List ReadExpr) (at : Place) → AllExprs ps → Keeps (comma_typed ps at)
comma_keeps ps at h = bind _ _ (each_keeps (map value_part ps) (values_keep ps h)) (λ values. pure_keeps _)

pub assign_keeps : (op : AssignOp) (to from : ReadExpr) (at : Place) → Keeps to.typed → Keeps from.typed → Keeps (assign_typed op to from at)
assign_keeps op to from at h k = bind _ _ h (λ a. bind _ _ (value_keeps from k) (λ b. by_tags_keeps _))

pub cond_keeps : (test yes_part no_part : ReadExpr) (at : Place) → Keeps test.typed → Keeps yes_part.typed → Keeps no_part.typed
    → Keeps (cond_typed test yes_part no_part at)
cond_keeps test yes_part no_part at h k l =
    bind _ _ (value_keeps test h) (λ t. bind _ _ (value_keeps yes_part k) (λ a. bind _ _ (value_keeps no_part l) (λ b. by_tags_keeps _)))

pub binary_keeps : (op : BinaryOp) (left right : ReadExpr) (at : Place) → Keeps left.typed → Keeps right.typed → Keeps (binary_typed op left right at)
binary_keeps op left right at h k = bind _ _ (value_keeps left h) (λ a. bind _ _ (value_keeps right k) (λ b. by_tags_keeps _))

pub cast_keeps : (to : ReadTypeName) (of : ReadExpr) (at : Place) → Keeps to → Keeps of.typed → Keeps (cast_typed to of at)
cast_keeps to of at h k = bind _ _ h (λ t. bind _ _ (value_keeps of k) (λ x. by_tags_keeps _))

pub prefix_keeps : (op : PrefixOp) (of : ReadExpr) (at : Place) → Keeps of.typed → Keeps (prefix_typed op of at)
prefix_keeps op of at h = bind _ _ (wanted_keeps (wanted op) of h) (λ x. by_tags_keeps _)

pub postfix_keeps : (op : PostfixOp) (of : ReadExpr) (at : Place) → Keeps of.typed → Keeps (postfix_typed op of at)
postfix_keeps op of at h = bind _ _ h (λ x. by_tags_keeps _)

pub sizeof_keeps : (of : ReadExpr) (at : Place) → Keeps of.typed → Keeps (sizeof_typed of at)
sizeof_keeps of at h = bind _ _ h (λ x. by_tags_keeps _)

pub sizeof_type_keeps : (of : ReadTypeName) (at : Place) → Keeps of → Keeps (sizeof_type_typed of at)
sizeof_type_keeps of at h = bind _ _ h (λ t. by_tags_keeps _)

pub index_keeps : (base index : ReadExpr) (at : Place) → Keeps base.typed → Keeps index.typed → Keeps (index_typed base index at)
index_keeps base index at h k = bind _ _ (value_keeps base h) (λ a. bind _ _ (value_keeps index k) (λ b. by_tags_keeps _))

base_keeps : (arrow : Bool) (base : ReadExpr) → Keeps base.typed → Keeps (base_part arrow base)
base_keeps true base h = value_keeps base h
base_keeps false base h = h

pub member_keeps : (base : ReadExpr) (arrow : Bool) (name : Name) (at : Place) → Keeps base.typed → Keeps (member_typed base arrow name at)
member_keeps base arrow name at h =
    bind _ _ (base_keeps arrow base h) (λ x. checked (λ s. s.tags) at
    (λ tags. (UnknownName, is_some (tag_of (holder arrow x.ctype)) && is_none (member_of tags (holder arrow x.ctype) name)) ∷ (BadOperands, not (is_some (tag_of (holder arrow x.ctype)))) ∷ [])
    (λ tags. pure (member_node x arrow (member_of tags (holder arrow x.ctype) name) at)) (λ tags. pure_keeps _))

called_keeps : (form : Form) (part : ReadExpr) → Keeps part.typed → Keeps (called_part form part)
called_keeps (is_name name) part h =
    checked (λ s. option_map (λ a. a.1) (lookup name s)) part.place (λ used. (UnknownName, is_unknown used) ∷ [])
    (λ used. pure (called_use used)) (λ used. pure_keeps (called_use used))
called_keeps (is_text text) part h = bind _ _ h (λ x. pure_keeps _)
called_keeps is_other part h = bind _ _ h (λ x. pure_keeps _)

format_keeps : (ps : List ReadExpr) → AllExprs ps → Keeps (format_parts ps)
format_keeps [] h = pure_keeps _
format_keeps (format ∷ others) h =
    let checks : List Check = (FormatLiteral, not (is_literal format.form)) ∷ (FormatSpec, is_none (conversions format.form)) ∷ [] in
    bind _ _ (value_keeps format h.0) (λ x.
    bind (first format.place checks) (λ u. each (map value_part others) >>= (λ xs. pure (x ∷ xs))) (first_keeps format.place checks) (λ u.
    bind (each (map value_part others)) (λ xs. pure (x ∷ xs)) (each_keeps (map value_part others) (values_keep others h.1)) (λ xs. pure_keeps (x ∷ xs))))

arguments_keep : (k : Option ℕ) (ps : List ReadExpr) → AllExprs ps → Keeps (argument_parts k ps)
arguments_keep None ps h = each_keeps (map value_part ps) (values_keep ps h)
arguments_keep (Some k) ps h =
    bind _ _ (each_keeps (map value_part (take k ps)) (values_keep (take k ps) (all_take k ps h))) (λ before.
    bind _ _ (format_keeps (drop k ps) (all_drop k ps h)) (λ behind. pure_keeps _))

pub call_keeps : (part : ReadExpr) (ps : List ReadExpr) (at : Place) → Keeps part.typed → AllExprs ps → Keeps (call_typed part ps at)
call_keeps part ps at h k =
    bind _ _ (called_keeps part.form part h) (λ f. bind _ _ (arguments_keep (before_format f) ps k) (λ args.
    checked (λ s. s.tags) at (λ tags.
    (LimitArguments, nat_lt most_arguments (length args))
    ∷ (BadOperands, option_map_or (λ g. not (arguments_fit tags g args)) f false)
    ∷ (BadCall, option_map_or (λ g. not (right_number g args)) f true)
    ∷ (FormatArgs, option_map_or (λ g. not (further_fit g ps args)) f false) ∷ [])
    (λ tags. pure (call_node f args at)) (λ tags. pure_keeps (call_node f args at))))

pub size_call_keeps : (pointer mode : ReadExpr) (at : Place) → Keeps pointer.typed → Keeps mode.typed → Keeps (size_call_typed pointer mode at)
size_call_keeps pointer mode at h k =
    bind _ _ (value_keeps pointer h) (λ p. bind _ _ (value_keeps mode k) (λ m.
    checked (λ s. s.tags) mode.place (λ tags. (NotConstant, is_none (constant_of tags m)) ∷ (SizeMode, option_map_or (nat_lt 3) (constant_of tags m) false) ∷ [])
    (λ tags. first at ((BadOperands, not (is_pointer p.ctype)) ∷ []) >>= (λ v. pure (node (e.SizeCall p m) unsigned_long at)))
    (λ tags. bind (first at ((BadOperands, not (is_pointer p.ctype)) ∷ [])) (λ v. pure (node (e.SizeCall p m) unsigned_long at))
    (first_keeps at ((BadOperands, not (is_pointer p.ctype)) ∷ [])) (λ v. pure_keeps (node (e.SizeCall p m) unsigned_long at)))))
