-- Each rule is read back from its code.
use Rattle.std.proofs.Common.{◌≡◌, true, Some, refl}
use Rattle.history_entry.specs.RuleText.{rule_text}
use Rattle.history_entry.specs.declared.rule.Rule.{Rule}
use Rattle.history_entry.specs.declared.rule.Rule.TheVariants.{K1, K2, K3, K4, K5, K6, K7, K8, K9, K10, G1, G2, G3, M1, M2, N1, N2, N3, N4, N5, N6, N7, N8, N9, F1, L1, L2, S1, S2, S3, S4, A1, A2, A3, A4, A5, B1, B2, B3, B4, B5, B6, B7, B8}
use Rattle.entry_reading.specs.Fields.{has_code, rule_of}
use Rattle.page_origin.proofs.Spellings.{are_visible}

pub rule_back : (rule : Rule) → rule_of (rule_text rule) ≡ Some rule
unfolding has_code rule_of
rule_back K1 = refl
rule_back K2 = refl
rule_back K3 = refl
rule_back K4 = refl
rule_back K5 = refl
rule_back K6 = refl
rule_back K7 = refl
rule_back K8 = refl
rule_back K9 = refl
rule_back K10 = refl
rule_back G1 = refl
rule_back G2 = refl
rule_back G3 = refl
rule_back M1 = refl
rule_back M2 = refl
rule_back N1 = refl
rule_back N2 = refl
rule_back N3 = refl
rule_back N4 = refl
rule_back N5 = refl
rule_back N6 = refl
rule_back N7 = refl
rule_back N8 = refl
rule_back N9 = refl
rule_back F1 = refl
rule_back L1 = refl
rule_back L2 = refl
rule_back S1 = refl
rule_back S2 = refl
rule_back S3 = refl
rule_back S4 = refl
rule_back A1 = refl
rule_back A2 = refl
rule_back A3 = refl
rule_back A4 = refl
rule_back A5 = refl
rule_back B1 = refl
rule_back B2 = refl
rule_back B3 = refl
rule_back B4 = refl
rule_back B5 = refl
rule_back B6 = refl
rule_back B7 = refl
rule_back B8 = refl

pub rule_visible : (rule : Rule) → are_visible (rule_text rule) ≡ true
rule_visible K1 = refl
rule_visible K2 = refl
rule_visible K3 = refl
rule_visible K4 = refl
rule_visible K5 = refl
rule_visible K6 = refl
rule_visible K7 = refl
rule_visible K8 = refl
rule_visible K9 = refl
rule_visible K10 = refl
rule_visible G1 = refl
rule_visible G2 = refl
rule_visible G3 = refl
rule_visible M1 = refl
rule_visible M2 = refl
rule_visible N1 = refl
rule_visible N2 = refl
rule_visible N3 = refl
rule_visible N4 = refl
rule_visible N5 = refl
rule_visible N6 = refl
rule_visible N7 = refl
rule_visible N8 = refl
rule_visible N9 = refl
rule_visible F1 = refl
rule_visible L1 = refl
rule_visible L2 = refl
rule_visible S1 = refl
rule_visible S2 = refl
rule_visible S3 = refl
rule_visible S4 = refl
rule_visible A1 = refl
rule_visible A2 = refl
rule_visible A3 = refl
rule_visible A4 = refl
rule_visible A5 = refl
rule_visible B1 = refl
rule_visible B2 = refl
rule_visible B3 = refl
rule_visible B4 = refl
rule_visible B5 = refl
rule_visible B6 = refl
rule_visible B7 = refl
rule_visible B8 = refl
