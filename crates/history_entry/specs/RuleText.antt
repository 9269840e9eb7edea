-- The codes of the rules, a letter and a number, and the list of all rules. Own format.
use Rattle.std.specs.Prelude.{◌∷◌, [], ℕ, List, codes}
use Rattle.history_entry.specs.declared.rule.Rule.{Rule}
use Rattle.history_entry.specs.declared.rule.Rule.TheVariants.{K1, K2, K3, K4, K5, K6, K7, K8, K9, K10, G1, G2, G3, M1, M2, N1, N2, N3, N4, N5, N6, N7, N8, N9, F1, L1, L2, S1, S2, S3, S4, A1, A2, A3, A4, A5, B1, B2, B3, B4, B5, B6, B7, B8}

-- a rule: a letter and a number
abbrev pub rule_text : Rule → List ℕ
rule_text K1 = codes "K1"
rule_text K2 = codes "K2"
rule_text K3 = codes "K3"
rule_text K4 = codes "K4"
rule_text K5 = codes "K5"
rule_text K6 = codes "K6"
rule_text K7 = codes "K7"
rule_text K8 = codes "K8"
rule_text K9 = codes "K9"
rule_text K10 = codes "K10"
rule_text G1 = codes "G1"
rule_text G2 = codes "G2"
rule_text G3 = codes "G3"
rule_text M1 = codes "M1"
rule_text M2 = codes "M2"
rule_text N1 = codes "N1"
rule_text N2 = codes "N2"
rule_text N3 = codes "N3"
rule_text N4 = codes "N4"
rule_text N5 = codes "N5"
rule_text N6 = codes "N6"
rule_text N7 = codes "N7"
rule_text N8 = codes "N8"
rule_text N9 = codes "N9"
rule_text F1 = codes "F1"
rule_text L1 = codes "L1"
rule_text L2 = codes "L2"
rule_text S1 = codes "S1"
rule_text S2 = codes "S2"
rule_text S3 = codes "S3"
rule_text S4 = codes "S4"
rule_text A1 = codes "A1"
rule_text A2 = codes "A2"
rule_text A3 = codes "A3"
rule_text A4 = codes "A4"
rule_text A5 = codes "A5"
rule_text B1 = codes "B1"
rule_text B2 = codes "B2"
rule_text B3 = codes "B3"
rule_text B4 = codes "B4"
rule_text B5 = codes "B5"
rule_text B6 = codes "B6"
rule_text B7 = codes "B7"
rule_text B8 = codes "B8"

-- every rule once, in the order in which a summary has them
abbrev pub all_rules : List Rule
all_rules = K1 ∷ K2 ∷ K3 ∷ K4 ∷ K5 ∷ K6 ∷ K7 ∷ K8 ∷ K9 ∷ K10 ∷ G1 ∷ G2 ∷ G3 ∷ M1 ∷ M2 ∷ N1 ∷ N2 ∷ N3 ∷ N4 ∷ N5 ∷ N6 ∷ N7 ∷ N8 ∷ N9
    ∷ F1 ∷ L1 ∷ L2 ∷ S1 ∷ S2 ∷ S3 ∷ S4 ∷ A1 ∷ A2 ∷ A3 ∷ A4 ∷ A5 ∷ B1 ∷ B2 ∷ B3 ∷ B4 ∷ B5 ∷ B6 ∷ B7 ∷ B8 ∷ []
