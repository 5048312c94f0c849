use Rattle.std.proofs.Common.{◌≡◌, ℕ, Bool, true, ◌&&◌, List, [], ◌∷◌, map, refl, ap, sym, ◌∙◌, rules}
use Rattle.std.specs.List.{list_all}
use borrow.Author.Tests.{tests}
use Rattle.std.proofs.lemmas.Iterator.Search.{all_from_yields_List}
use Rattle.std.proofs.lemmas.Iterator.Consumers.{YieldsList-from_first}
use Rattle.std.proofs.lemmas.List.Folds.{list_all-map}
use Rattle.judges.specs.declared.words.Capability.{Capability}
use Rattle.records.specs.Layout.{Rec, entry, rec_of}
use Rattle.records.specs.Reads.{octets, rows, says_of}
use Rattle.table.specs.Message.{entries_in, all_lawful}
use Rattle.table.proofs.set.are_lawful.Goals as goal

-- an entry is lawful, and so is any other record
abbrev lawful_one : (Capability → Bool) → Rec → Bool
lawful_one ok (entry n c) = ok c
lawful_one ok r = true

lawful_each : (ok : Capability → Bool) (rs : List Rec) → list_all (lawful_one ok) rs ≡ all_lawful ok (entries_in rs)
lawful_each ok [] = refl
lawful_each ok (entry n c ∷ rs) = ap (λ (b : Bool). ok c && b) (lawful_each ok rs)
lawful_each ok (r ∷ rs) = lawful_each ok rs

of_rows : (ok : Capability → Bool) (os : List (List ℕ)) → list_all (λ o. lawful_one ok (rec_of o)) os ≡ all_lawful ok (entries_in (says_of os))
unfolding says_of
of_rows ok os = sym (list_all-map (lawful_one ok) rec_of os) ∙ lawful_each ok (map rec_of os)

pub returns : goal.returns
returns g c =
    let ok = g.J.Judge.lawful c.args.judge.now in
    all_from_yields_List (λ o. lawful_one ok (rec_of o)) c.all.new.self _ _ c.all.ensures.ran (YieldsList-from_first octets rows _ refl) (λ x b q k. search (rules, tests))
    ∙ of_rows ok (rows c.args.message)
