-- What a statement is by the statements in it, which are what they are by themselves.
use Rattle.std.proofs.Common.{◌≡◌, List, ap, ◌∙◌, subst}
use Rattle.c_layout.specs.declared.tags.TagDef.{TagDef}
use Rattle.c_tree.specs.declared.programs.LocalDef.{LocalDef}
use Rattle.c_tree.specs.declared.typed.TypedStmt.{TypedStmt, roll-TypedStmt, out-TypedStmt}
use Rattle.c_tree.specs.declared.typed.TypedStmt.TheFolds.{map-TypedStmt, fold-roll-TypedStmt, fold_out-TypedStmt, ind-TypedStmt}
use Rattle.c_tree.specs.declared.typed.TypedStmt.TheOpen.{TypedStmt-F}
use Rattle.plain_meaning.specs.Expressions.{Calls}
use Rattle.plain_meaning.specs.Statements.{Part, stmt_run, stmt_layer, stmt_part, run_of}
use Rattle.plain_meaning.proofs.ExtendsStatements.{map_map}

module _ (tags : List TagDef) (locals : List LocalDef) (c : Calls) where
  abbrev part_of : TypedStmt → Part
  part_of = stmt_part tags locals c

  abbrev IsWhole : TypedStmt → Type 0
  IsWhole s = (part_of s).whole ≡ s

  abbrev Stmts : Type 0
  Stmts = (s : TypedStmt) × IsWhole s

  -- the layer below a statement, whatever it is made of
  stmt_below : (y : TypedStmt-F Stmts) → IsWhole (roll-TypedStmt (map-TypedStmt Stmts TypedStmt (λ a. a.0) y))
  stmt_below y =
      ap (λ p. p.whole) (fold-roll-TypedStmt Part (stmt_layer tags locals c) (map-TypedStmt Stmts TypedStmt (λ a. a.0) y))
      ∙ ap (λ k. roll-TypedStmt (map-TypedStmt Part TypedStmt (λ p. p.whole) k)) (map_map Stmts TypedStmt Part (λ a. a.0) part_of y)
      ∙ ap roll-TypedStmt (map_map Stmts Part TypedStmt (λ a. part_of a.0) (λ p. p.whole) y)
      ∙ ap (λ f. roll-TypedStmt (map-TypedStmt Stmts TypedStmt f y)) (λ i a. a.1 i)

  whole_is : (s : TypedStmt) → IsWhole s
  whole_is = ind-TypedStmt IsWhole (λ x y is. subst (λ x. IsWhole (roll-TypedStmt x)) is (stmt_below y))

  -- a statement by itself
  abbrev pub parted : TypedStmt → Part
  parted s = record { whole = s; run = run_of tags locals c s }

  part_is : (s : TypedStmt) → part_of s ≡ parted s
  part_is s = ap (λ w. record { whole = w; run = run_of tags locals c s }) (whole_is s)

  abbrev pub layered : TypedStmt-F TypedStmt → TypedStmt-F Part
  layered k = map-TypedStmt TypedStmt Part parted k

  -- a statement by its kind
  pub run_steps : (s : TypedStmt) → run_of tags locals c s ≡ stmt_run tags locals c (layered (out-TypedStmt s))
  run_steps s =
      ap (λ p. p.run) (fold_out-TypedStmt Part (stmt_layer tags locals c) s)
      ∙ ap (λ f. stmt_run tags locals c (map-TypedStmt TypedStmt Part f (out-TypedStmt s))) (λ i s. part_is s i)
