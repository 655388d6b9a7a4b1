use Rattle.vcard_lines.specs.Grammar.{is_permitted, is_value_octet}
use Rattle.vcard_lines.proofs.FrontLemmas.{of_class, all_of_class}
use Rattle.vcard_lines.proofs.LegalPartLemmas.{name_from_test, name_to_test, param_from_test}
use Rattle.vcard_lines.proofs.LegalPartLemmas.{param_to_test, legal_from_test, legal_to_test}
use Rattle.vcard_lines.proofs.laws.tests_agree_with_the_grammar.Goals as goal

pub returns-clause-characters : goal.returns-clause-characters
returns-clause-characters c = λ text. (of_class is_permitted text, all_of_class is_permitted text)

pub returns-clause-name : goal.returns-clause-name
returns-clause-name c = λ name. (name_from_test name, name_to_test name)

pub returns-clause-value : goal.returns-clause-value
returns-clause-value c = λ value. (
  of_class (is_value_octet value.quoted) value.text,
  all_of_class (is_value_octet value.quoted) value.text,
)

pub returns-clause-param : goal.returns-clause-param
returns-clause-param c = λ param. (param_from_test param, param_to_test param)

pub returns-clause-parts : goal.returns-clause-parts
returns-clause-parts c = λ line. (legal_from_test line, legal_to_test line)
