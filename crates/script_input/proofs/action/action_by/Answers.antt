use Rattle.script_input.proofs.action.action_by.Goals as goal

pub returns-in-remove-clause-among : goal.returns-in-remove-clause-among
returns-in-remove-clause-among c = c.remove_action.ensures.among c.args.count

pub returns-in-navigate-clause-among : goal.returns-in-navigate-clause-among
returns-in-navigate-clause-among c = c.navigate_action.ensures.among c.args.count

pub returns-in-page-clause-among : goal.returns-in-page-clause-among
returns-in-page-clause-among c = c.page_action.ensures.among c.args.count

pub returns-in-fetch-clause-among : goal.returns-in-fetch-clause-among
returns-in-fetch-clause-among c = c.fetch_action.ensures.among c.args.count

pub returns-in-post-clause-among : goal.returns-in-post-clause-among
returns-in-post-clause-among c = c.post_action.ensures.among c.args.count

pub returns-in-ask-clause-among : goal.returns-in-ask-clause-among
returns-in-ask-clause-among c = c.ask_action.ensures.among c.args.count
